-- The list of the predecessors of a position, and the loops that make it.
use Rattle.std.proofs.Common.{◌≡◌, ℕ, ◌*◌, ◌<◌, ◌≤◌, true, List, [], ◌∷◌, ◌++◌, length, map, refl, sym, ap, ◌∙◌, subst, arith, append_assoc, None}
use Rattle.std.proofs.lemmas.List.Elements.{Contains-append_right}
use Rattle.std.proofs.lemmas.List.Concat.{flat_map_single}
use Rattle.std.proofs.lemmas.Grind.{flat_map-append}
use Rattle.std.proofs.lemmas.List.{append-nil, map-append, flat_map_more}
use Rattle.std.specs.List.{All, Contains, flat_map}
use Rattle.morris_board.specs.Sets.{has, members}
use Rattle.morris_board.specs.Boards.{Shape}
use Rattle.morris_board.specs.Positions.{Sides, IsPosition}
use Rattle.morris_board.specs.Symmetries.{HasSymmetries}
use Rattle.morris_moves.specs.declared.game_move.Move.{Move}
use Rattle.morris_moves.specs.Rules.{move_stone, move}
use Rattle.morris_moves.specs.Backward.{unmove}
use Rattle.morris_moves.proofs.ListLaws.{Contains-head}
use Rattle.morris_moves.proofs.SetLaws.{has-member}
use Rattle.morris_index.specs.Pairs.{Counts, IsPair, is_of, index_of}
use Rattle.morris_index.specs.Moves.{unmove_sides}
use Rattle.morris_wave.specs.Nets.{times}
use Rattle.morris_index.specs.Unmoves.{entry_predecessors}
use Rattle.morris_pairs.specs.Orders.{Order, Full, Classes, Rows, to_first_half, count_in, index_in, own_in}
use Rattle.morris_pairs.specs.EntryLaws.{canonical_form-classes, canonical_form-rows}
use Rattle.morris_pairs.specs.PairNets.{net_in}
use Rattle.morris_pairs.specs.Predecessors.{moves_into, unmoves_to, predecessors_in_rows, predecessors_by_in, predecessors_in}
use Rattle.morris_pairs.proofs.BackLaws.{indices_before, times_before, nodes_before, few_before}
use Rattle.morris_pairs.proofs.ClassBackLaws.{times_leads, nodes_leading, few_leading}

-- ---- what the list of all of them is, with the number of points given apart

pub record AreLeading (o : Order) (b : Shape) (n : ℕ) (c : Counts) (p : Sides) (xs : List ℕ) : Type 0 where
  pub often : (j : ℕ) → times j xs ≡ times (index_in b n o c p) ((net_in b o c).quiet j)
  pub nodes : All (λ j. j < count_in b n o c) xs
  pub few : length xs ≤ 9 * 24 * b.symmetries

-- where each position has an entry, the predecessor by a move is the entry of the one position
-- before it
by_index : (b : Shape) (n : ℕ) (c : Counts) (p : Sides) (moves : List Move) → indices_before n c p moves ≡ predecessors_in Full b n c p moves
unfolding indices_before predecessors_in unmove move_stone
by_index b n c p moves = sym (flat_map_single (λ m. index_of n c (unmove_sides p m.from m.to)) moves)

are_leading : (o : Order) (b : Shape) (n : ℕ) → b.points ≡ n → n ≤ 24 → HasSymmetries b → (c : Counts) → IsPair n c → (p : Sides) → IsPosition b p → is_of c p ≡ true
    → own_in b o p ≡ true → AreLeading o b n c p (predecessors_in o b n c p (unmoves_to b p n (members p.other)))
unfolding predecessors_in entry_predecessors predecessors_in_rows
are_leading Full b n e small y c pair p h of own =
    let low : b.points ≤ 24 = omega (arith, e, small) in
    let same : IsPair b.points c = subst (λ k. IsPair k c) (sym e) pair in
    subst (λ k. AreLeading Full b k c p (predecessors_in Full b k c p (unmoves_to b p k (members p.other)))) e
    (subst (AreLeading Full b b.points c p) (by_index b b.points c p (unmoves_to b p b.points (members p.other)))
    (record {
      often = times_before b low c same p h of;
      nodes = nodes_before b low c same p h of;
      few = omega (arith, few_before b low c same p h of, y.some);
    }))
are_leading Classes b n e small y c pair p h of own =
    let low : b.points ≤ 24 = omega (arith, e, small) in
    let same : IsPair b.points c = subst (λ k. IsPair k c) (sym e) pair in
    let laws = canonical_form-classes b low y c in
    subst (λ k. AreLeading Classes b k c p (predecessors_in Classes b k c p (unmoves_to b p k (members p.other)))) e
    (record {
      often = times_leads b low y c same Classes (λ s. s) laws p h of own;
      nodes = nodes_leading b low y c same Classes (λ s. s) laws p h of own;
      few = few_leading b low y c same Classes (λ s. s) laws p h of own;
    })
are_leading Rows b n e small y c pair p h of own =
    let low : b.points ≤ 24 = omega (arith, e, small) in
    let same : IsPair b.points c = subst (λ k. IsPair k c) (sym e) pair in
    let laws = canonical_form-rows b low y c same in
    subst (λ k. AreLeading Rows b k c p (predecessors_in Rows b k c p (unmoves_to b p k (members p.other)))) e
    (record {
      often = times_leads b low y c same Rows to_first_half laws p h of own;
      nodes = nodes_leading b low y c same Rows to_first_half laws p h of own;
      few = few_leading b low y c same Rows to_first_half laws p h of own;
    })

-- ---- the loops over the points

module _ (o : Order) (b : Shape) (n : ℕ) (c : Counts) (p : Sides) where
  pub leading_none : predecessors_in o b n c p (unmoves_to b p n []) ≡ []
  unfolding predecessors_in unmoves_to
  leading_none = refl

  pub leading_more : (vs : List ℕ) (v : ℕ) → predecessors_in o b n c p (unmoves_to b p n vs) ++ predecessors_in o b n c p (moves_into b p v n)
      ≡ predecessors_in o b n c p (unmoves_to b p n (vs ++ v ∷ []))
  unfolding predecessors_in unmoves_to
  leading_more vs v =
      sym (flat_map-append (λ (m : Move). predecessors_by_in o b n c p m.from m.to) (flat_map (λ k. moves_into b p k n) vs) (moves_into b p v n))
      ∙ ap (flat_map (λ (m : Move). predecessors_by_in o b n c p m.from m.to)) (flat_map_more (λ k. moves_into b p k n) [] vs v)

  pub leading_into_none : (v : ℕ) → predecessors_in o b n c p (map (λ u. move u v None) []) ≡ []
  unfolding predecessors_in
  leading_into_none v = refl

  pub leading_into_more : (us : List ℕ) (u v : ℕ) → predecessors_in o b n c p (map (λ u. move u v None) us) ++ predecessors_by_in o b n c p u v
      ≡ predecessors_in o b n c p (map (λ u. move u v None) (us ++ u ∷ []))
  unfolding predecessors_in
  leading_into_more us u v =
      sym (ap (flat_map (λ (m : Move). predecessors_by_in o b n c p m.from m.to)) (map-append (λ u. move u v None) us (u ∷ []))
      ∙ flat_map-append (λ (m : Move). predecessors_by_in o b n c p m.from m.to) (map (λ u. move u v None) us) (move u v None ∷ [])
      ∙ ap (λ xs. flat_map (λ (m : Move). predecessors_by_in o b n c p m.from m.to) (map (λ u. move u v None) us) ++ xs) (append-nil (predecessors_by_in o b n c p u v)))

-- among all positions, they are the indices of those before the moves
pub leading_by_index : (b : Shape) (n : ℕ) (c : Counts) (p : Sides) (v : ℕ) (us : List ℕ)
    → map (λ u. index_of n c (unmove_sides p u v)) us ≡ predecessors_in Full b n c p (map (λ u. move u v None) us)
unfolding predecessors_in
leading_by_index b n c p v [] = refl
leading_by_index b n c p v (u ∷ us) = ap (λ (xs : List ℕ). index_of n c (unmove_sides p u v) ∷ xs) (leading_by_index b n c p v us)

-- ---- going through the points of a set: a point of it, those so far with it, and all of them

pub end_of : (s v : ℕ) (ys rest left : List ℕ) → ys ++ left ≡ members s → left ≡ v ∷ rest → has s v ≡ true
end_of s v ys rest left split step =
    has-member s v (subst (λ xs. Contains xs v) (ap (λ zs. ys ++ zs) (sym step) ∙ split) (Contains-append_right ys (v ∷ rest) v (Contains-head v rest)))

pub next_points : (ys : List ℕ) (v : ℕ) (rest left whole : List ℕ) → ys ++ left ≡ whole → left ≡ v ∷ rest → (ys ++ v ∷ []) ++ rest ≡ whole
next_points ys v rest left whole split step = append_assoc ys (v ∷ []) rest ∙ (ap (λ zs. ys ++ zs) (sym step) ∙ split)

pub none_left : (ys left whole : List ℕ) → ys ++ left ≡ whole → left ≡ [] → ys ≡ whole
none_left ys left whole split none = sym (append-nil ys) ∙ (ap (λ zs. ys ++ zs) (sym none) ∙ split)

-- its end: no stone is left
pub all_leading : (o : Order) (b : Shape) (n : ℕ) → b.points ≡ n → n ≤ 24 → HasSymmetries b → (c : Counts) → IsPair n c → (p : Sides) → IsPosition b p → is_of c p ≡ true
    → own_in b o p ≡ true
    → (ys : List ℕ) (rest : ℕ) → ys ++ members rest ≡ members p.other → members rest ≡ []
    → AreLeading o b n c p (predecessors_in o b n c p (unmoves_to b p n ys))
all_leading o b n e small y c pair p h of own ys rest points none =
    let each = none_left ys (members rest) _ points none in
    subst (λ zs. AreLeading o b n c p (predecessors_in o b n c p (unmoves_to b p n zs))) (sym each) (are_leading o b n e small y c pair p h of own)
