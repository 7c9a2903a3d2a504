-- A set's numbers outside another where the set gets one point more, and the entry found by them.
use Rattle.std.proofs.Common.{◌≡◌, ◌≢◌, ℕ, suc, ◌+◌, ◌^◌, ◌<◌, ◌≤◌, true, false, map, refl, sym, ◌∙◌, ap, ap₂, subst, inl, inr, arith}
use Rattle.std.proofs.lemmas.Bool.{cases_Bool, both_ways, eq-eqb, ne_eqb}
use Rattle.std.proofs.Math.Nat.{pow-le-pow_right}
use Rattle.morris_board.specs.Boards.{Shape}
use Rattle.morris_board.specs.Sets.{has, members, count_of, with_point}
use Rattle.morris_board.specs.Positions.{sides, IsPosition}
use Rattle.morris_board.specs.Symmetries.{HasSymmetries, image_of}
use Rattle.morris_board.proofs.PointsLaws.{has-with, count_of-with}
use Rattle.morris_board.proofs.SetLaws.{point_lt}
use Rattle.morris_index.specs.Classes.{symmetry_of, representative_of}
use Rattle.morris_index.specs.ClassPairs.{class_size_of, class_index_of}
use Rattle.morris_index.specs.Numbering.{rank_of, number_outside}
use Rattle.morris_index.specs.Pairs.{Counts}
use Rattle.morris_index.specs.Moves.{InPair}
use Rattle.morris_index.specs.Parts.{bit_of_number, squeeze_below}
use Rattle.morris_index.specs.Standings.{are_of, IsCanonicalStanding, IsElsewhere}
use Rattle.morris_index.specs.declared.standing.Standing.{Standing}
use Rattle.morris_index.proofs.CarriedLaws.{carried_rank}
use Rattle.morris_index.proofs.ClassLaws.{image_none, representative_symmetry}
use Rattle.morris_index.proofs.SetLaws.{or_false}
use Rattle.morris_index.proofs.Moving.{total-zero, total-suc, alike}
use Rattle.morris_index.proofs.Squeezing.{squeeze-24, squeeze-rank}
use Rattle.morris_index.proofs.StandingLaws.{entry-is}
use Rattle.morris_index.proofs.ClassPairLaws.{index-lt}
use Rattle.morris_index.proofs.IndexLaws.{placed}
use Rattle.morris_index.proofs.NumberLaws.{numbers_count}
use Rattle.morris_index.proofs.RankLaws.{number-count}

-- ---- one point more

module _ (outside set p : ℕ) (low : p < 24) (free : has outside p ≡ false) (none : has set p ≡ false) where
  abbrev before : ℕ → ℕ
  before = bit_of_number outside set

  abbrev after : ℕ → ℕ
  after = bit_of_number outside (with_point set p)

  same : (q : ℕ) → q ≢ p → before q ≡ after q
  same q n = let e : has (with_point set p) q ≡ has set q = has-with set p q ∙ rw (ne_eqb q p n) (or_false (has set q)) in rw e refl

  nothing : before p ≡ 0
  nothing = rw none refl

  something : after p ≡ 2 ^ number_outside outside p
  something =
      let e : has (with_point set p) p ≡ true = has-with set p p ∙ rw (none, eq-eqb p p refl) refl in
      rw (e, free) refl

  pub squeeze-more : squeeze_below outside (with_point set p) 24 ≡ squeeze_below outside set 24 + 2 ^ number_outside outside p
  unfolding squeeze_below
  squeeze-more = omega (
    arith,
    alike before after 0 p (omega arith) (λ q h k. same q (omega (arith, k))),
    total-zero before,
    total-zero after,
    total-suc before p,
    total-suc after p,
    nothing,
    something,
    alike before after (suc p) 24 (omega (arith, low)) (λ q h k. same q (omega (arith, h))),
  )

-- ---- the entry of a position in which the player to move stands on a representative

module _ (board : Shape) (n : ℕ) (few : n ≤ 24) (points : board.points ≡ n) (y : HasSymmetries board) (c : Counts) (standing : Standing) (other : ℕ)
    (k : IsCanonicalStanding board n c (count_of other) standing) (h : IsPosition board (sides standing.own other))
    (least : representative_of board standing.own ≡ standing.own) where
  unled : standing.symmetry ≡ 0
  unled = k.symmetry ∙ ap (symmetry_of board) (sym least) ∙ representative_symmetry board (omega arith) y standing.own h.stones.own_within

  pub least_rank : rank_of (map (number_outside standing.own) (members other)) ≡ carried_rank board (sides standing.own other) standing.symmetry
  least_rank =
      ap₂ (λ (o s : ℕ). rank_of (map (number_outside o) (members s))) (sym least)
      (sym (ap (λ t. image_of (board.image t) other) unled ∙ image_none board (omega arith) y other h.stones.other_within))

  pub least_entry : standing.start + rank_of (map (number_outside standing.own) (members other)) ≡ class_index_of board n c (sides standing.own other)
  least_entry = ap (λ r. standing.start + r) least_rank ∙ entry-is board n few points y c standing other k h

-- ---- where the stone stands on p

module _ (board : Shape) (n : ℕ) (few : n ≤ 24) (points : board.points ≡ n) (y : HasSymmetries board) (at : InPair) (standing : Standing) (squeeze count : ℕ)
    (k : IsElsewhere board n at standing squeeze count) (p : ℕ) (none : has at.position.other p ≡ false)
    (h : IsPosition board (sides at.position.own (with_point at.position.other p))) where
  abbrev own : ℕ
  own = at.position.own

  abbrev more : ℕ
  more = with_point at.position.other p

  here : has more p ≡ true
  here = has-with at.position.other p p ∙ rw (none, eq-eqb p p refl) refl

  others_within : more < 2 ^ 24
  others_within = omega (arith, h.stones.other_within, points, pow-le-pow_right {n = 2} (omega arith) {i = board.points} {j = 24} (omega (arith, few, points)))

  pub on_board : p < n
  on_board = point_lt more n p (placed board n (sides own more) points h).other_within here

  apart : (q : ℕ) → has more q ≡ true → has own q ≡ false
  apart q y = elim (cases_Bool (has own q)) [
    | inl x ↦ absurd (both_ways (has more q) (h.stones.apart q x) y)
    | inr x ↦ x
  ]

  pub number_few : number_outside standing.own p ≤ p
  number_few = omega (arith, number-count standing.own p)

  abbrev numbers : ℕ
  numbers = squeeze + 2 ^ number_outside standing.own p

  are_numbers : numbers ≡ squeeze_below own more 24
  are_numbers =
      omega (
        arith,
        k.numbers,
        ap (λ o. 2 ^ number_outside o p) k.own,
        squeeze-more own at.position.other p (omega (arith, on_board, few)) (apart p here) none,
      )

  pub numbers_within : numbers < 2 ^ 24
  numbers_within = rw are_numbers (squeeze-24 own more apart 24 (omega arith))

  same_count : count_of more ≡ count
  same_count = count_of-with at.position.other p (omega (arith, on_board, few)) none ∙ sym k.counted

  pub numbers_counted : count_of numbers ≡ count
  numbers_counted = ap count_of are_numbers ∙ numbers_count own more apart 24 (omega arith) others_within ∙ same_count

  ranked : rank_of (map (number_outside 0) (members numbers)) ≡ rank_of (map (number_outside standing.own) (members more))
  ranked =
      ap (λ x. rank_of (map (number_outside 0) (members x))) are_numbers
      ∙ squeeze-rank own more apart others_within
      ∙ ap (λ o. rank_of (map (number_outside o) (members more))) (sym k.own)

  stands : IsCanonicalStanding board n at.pair (count_of more) standing
  stands = subst (λ m. IsCanonicalStanding board n at.pair m standing) (sym same_count) k.stands

  lawful : IsPosition board (sides standing.own more)
  lawful = subst (λ o. IsPosition board (sides o more)) (sym k.own) h

  pub entry_there : standing.start + rank_of (map (number_outside 0) (members numbers)) ≡ class_index_of board n at.pair (sides own more)
  entry_there =
      ap (λ r. standing.start + r) ranked
      ∙ least_entry board n few points y at.pair standing more stands lawful (ap (representative_of board) k.own ∙ k.least ∙ sym k.own)
      ∙ ap (λ o. class_index_of board n at.pair (sides o more)) k.own

  pub entry_inside : class_index_of board n at.pair (sides own more) < class_size_of board n at.pair
  entry_inside =
      index-lt board n few points y at.pair (sides own more) h
      (ap₂ (λ o m. are_of at.pair (count_of o) m) (sym k.own) same_count ∙ k.stands.counts)

  pub start_few : standing.start ≤ 2 ^ 54
  start_few = k.stands.few
