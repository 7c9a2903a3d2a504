-- A graph by canonical forms, looked at from a node: the moves to the position of the node, each
-- taken along by the symmetries that give un-moves by it, are the moves of the nodes that lead
-- there.
use Rattle.std.proofs.Common.{◌≡◌, ℕ, ◌*◌, ◌<◌, ◌≤◌, ◌^◌, Bool, true, ◌&&◌, eqb, leb, cond, List, [], ◌∷◌, map, filter, length, refl, sym, ap, subst, ◌∙◌, inl, inr, arith, None}
use Rattle.std.specs.List.{All, Contains, range_with_len, count_by, sum_by, flat_map, list_all}
use Rattle.std.specs.Option.{option_map}
use Rattle.std.proofs.lemmas.Bool.{cases_Bool, cases_lt, both_ways, cond-true, cond-false, eq-eqb, eqb-true, and_parts, and_from, le-leb, leb-true}
use Rattle.std.proofs.Math.Nat.{mul-le-mul_right}
use Rattle.std.proofs.lemmas.List.{length-map}
use Rattle.std.proofs.lemmas.List.FromFn.{length-range_with_len}
use Rattle.morris_board.specs.Boards.{Shape}
use Rattle.morris_board.specs.Positions.{Sides, IsPosition}
use Rattle.morris_board.specs.Symmetries.{image_of, image_sides, inverse_of, HasSymmetries}
use Rattle.morris_board.specs.SymmetryLaws.{below}
use Rattle.morris_board.proofs.ImageLaws.{IsOneToOne, one_to_one, IsSymmetry-back, count_of-image, IsPosition-image, image_sides-undone, image_of-undone}
use Rattle.morris_moves.specs.declared.game_move.Move.{Move}
use Rattle.morris_moves.specs.Rules.{moves_of, result_of, move_stone}
use Rattle.morris_moves.specs.Backward.{unmove}
use Rattle.morris_moves.proofs.LegalLaws.{IsLegalMove, listed_move}
use Rattle.morris_moves.proofs.ListLaws.{contained_all, Ascends, Contains-head, Contains-map_cases, Contains-flat_map_cases, length-flat_map_le}
use Rattle.morris_moves.proofs.ResultLaws.{IsPosition-result, count_of-mover, count_of-quiet}
use Rattle.morris_moves.proofs.SymmetryLaws.{image_move, listed_goes, result_of-image, taken_within}
use Rattle.morris_index.specs.Pairs.{Counts, IsPair, is_of}
use Rattle.morris_index.specs.Classes.{is_canonicalizing, symmetry_of, representative_of}
use Rattle.morris_index.specs.Moves.{unmove_sides}
use Rattle.morris_index.specs.Unmoves.{gives_unmove}
use Rattle.morris_index.proofs.IndexLaws.{placed}
use Rattle.morris_index.proofs.ResultLaws.{is_of-quiet}
use Rattle.morris_index.proofs.ClassLaws.{symmetry_within, symmetry_first, image_twice, representative_twice}
use Rattle.morris_wave.specs.Nets.{times}
use Rattle.morris_pairs.specs.Orders.{Order, count_in, index_in, own_in}
use Rattle.morris_pairs.specs.EntryLaws.{IsLaid, IsCanonicalBy, canonical_by as canonical_there, canonical_none, laid-canonical_form}
use Rattle.morris_pairs.specs.FilterLaws.{filter-contains, contained-filter, range_bounds, length-filter_le, flat_map-one, All-from_contained}
use Rattle.morris_pairs.specs.NetLaws.{at_index-is, at_index-position}
use Rattle.morris_pairs.specs.PairNets.{at_index, is_quiet, quiet_results, net_in}
use Rattle.morris_pairs.proofs.BackLaws.{HasLed, all_before, led as canonical_by, led-listed, led-placed, led-of, led-moves, led-result, LeadsTo, leads-led, leads-before, leads-other, is_position, quiet_taken, taken_quiet, moves_differ, moves_before_differ, few_moves}
use Rattle.morris_pairs.proofs.BackLawsLists.{Contains-range, Ascends-range, Ascends-filter, Ascends-weaker, counted, found, at_most_one, count_by-map, one_each}
use Rattle.morris_pairs.proofs.BackLawsMoves.{moved_same, before_mover, alike}
use Rattle.morris_pairs.proofs.Doubles.{sum_same, count_sum, count_by-filter, count_by-flat_map, exchange}
use Rattle.morris_moves.proofs.BackLaws.{vacant_parts}

-- the symmetries of a board, by their numbers
abbrev all_symmetries : Shape → List ℕ
all_symmetries b = range_with_len 0 b.symmetries

-- ---- a set and its representative

module _ (b : Shape) (low : b.points ≤ 24) (y : HasSymmetries b) (s : ℕ) (in_range : s < b.symmetries) (set : ℕ) (small : set < 2 ^ b.points) where
  -- a symmetry that canonicalizes a set takes it to its canonical form
  pub leads_there : is_canonicalizing b set s ≡ true → image_of (b.image s) set ≡ representative_of b set
  unfolding is_canonicalizing representative_of
  leads_there canonicalizing =
      let first = symmetry_first b set y.some in
      let above : leb (image_of (b.image s) set) (image_of (b.image (symmetry_of b set)) set) ≡ true =
      below (λ t. leb (image_of (b.image s) set) (image_of (b.image t) set)) b.symmetries canonicalizing (symmetry_of b set) first.within in
      omega (arith, first.least s in_range, leb-true (image_of (b.image s) set) (image_of (b.image (symmetry_of b set)) set) above)

  -- where it takes a set to a canonical form, it canonicalizes the set
  pub canonicalizing_from : representative_of b (image_of (b.image s) set) ≡ image_of (b.image s) set → image_of (b.image s) set < 2 ^ b.points → is_canonicalizing b set s ≡ true
  unfolding is_canonicalizing representative_of
  canonicalizing_from own within =
      all_below (λ t. leb (image_of (b.image s) set) (image_of (b.image t) set)) (λ t t_low.
      let u = image_twice b low y (image_of (b.image s) set) within t (inverse_of s) t_low (y.inverse_within s in_range) in
      let first = symmetry_first b (image_of (b.image s) set) y.some in
      let undone : image_of (b.image (inverse_of s)) (image_of (b.image s) set) ≡ set =
      image_of-undone b.points low (b.image s) (b.image (inverse_of s)) (one_to_one b _ _ (y.symmetry s in_range)) set small in
      let least : image_of (b.image (symmetry_of b (image_of (b.image s) set))) (image_of (b.image s) set) ≤ image_of (b.image u.0) (image_of (b.image s) set) = first.least u.0 u.1 in
      let seen : image_of (b.image t) set ≡ image_of (b.image u.0) (image_of (b.image s) set) = ap (image_of (b.image t)) (sym undone) ∙ u.2 in
      le-leb _ _ (omega (arith, least, own, seen)))
    where
      all_below : (test : ℕ → Bool) → ((t : ℕ) → t < b.symmetries → test t ≡ true) → list_all test (range_with_len 0 b.symmetries) ≡ true
      all_below test each = contained_all test (range_with_len 0 b.symmetries) (λ t at. each t (omega (arith, (range_bounds 0 b.symmetries t at).1)))

module _ (b : Shape) (low : b.points ≤ 24) (y : HasSymmetries b) (c : Counts) (pair : IsPair b.points c) (o : Order) (turn : Sides → Sides)
    (laws : IsCanonicalBy b o c turn) where
  abbrev entry : Sides → ℕ
  entry s = index_in b b.points o c s

  one : (s : ℕ) → s < b.symmetries → IsOneToOne b.points (b.image s) (b.image (inverse_of s))
  one s in_range = one_to_one b _ _ (y.symmetry s in_range)

  back_one : (s : ℕ) → s < b.symmetries → IsOneToOne b.points (b.image (inverse_of s)) (b.image s)
  back_one s in_range = one_to_one b _ _ (IsSymmetry-back b _ _ (y.symmetry s in_range))

  -- ---- images of positions under a symmetry, and back

  module _ (s : ℕ) (in_range : s < b.symmetries) where
    abbrev f : ℕ → ℕ
    f = b.image s

    abbrev back : ℕ → ℕ
    back = b.image (inverse_of s)

    there_and_back : (q : Sides) → IsPosition b q → image_sides back (image_sides f q) ≡ q
    there_and_back q h = image_sides-undone b low f back (one s in_range) q h.stones

    back_and_there : (q : Sides) → IsPosition b q → image_sides f (image_sides back q) ≡ q
    back_and_there q h = image_sides-undone b low back f (back_one s in_range) q h.stones

    carried_position : (q : Sides) → IsPosition b q → IsPosition b (image_sides f q)
    carried_position q h = IsPosition-image b low f back (one s in_range) q h

    carried_of : (q : Sides) → IsPosition b q → is_of c q ≡ true → is_of c (image_sides f q) ≡ true
    carried_of q h of = rw (
      count_of-image b.points low f back (one s in_range) q.own h.stones.own_within,
      count_of-image b.points low f back (one s in_range) q.other h.stones.other_within,
    ) of

    back_position : (q : Sides) → IsPosition b q → IsPosition b (image_sides back q)
    back_position q h = IsPosition-image b low back f (back_one s in_range) q h

    back_of : (q : Sides) → IsPosition b q → is_of c q ≡ true → is_of c (image_sides back q) ≡ true
    back_of q h of = rw (
      count_of-image b.points low back f (back_one s in_range) q.own h.stones.own_within,
      count_of-image b.points low back f (back_one s in_range) q.other h.stones.other_within,
    ) of

    carried_own : (q : Sides) → IsPosition b q → is_canonicalizing b (turn q).own s ≡ true → own_in b o (image_sides f q) ≡ true
    carried_own q h canonicalizing =
        let is : (turn (image_sides f q)).own ≡ representative_of b (turn q).own =
        laws.image s in_range q h ∙ leads_there b low y s in_range (turn q).own (laws.within q h) canonicalizing in
        laws.own (image_sides f q)
        ∙ eq-eqb _ _ (ap (representative_of b) is ∙ representative_twice b low y (turn q).own (laws.within q h) ∙ sym is)

  -- ---- the moves to a position with an entry of its own

  module _ (p : Sides) (h : IsPosition b p) (of : is_of c p ≡ true) (own : own_in b o p ≡ true) where
    -- the predecessors by the move from u to v, one for each symmetry that gives one
    abbrev carried_before : ℕ → ℕ → List ℕ
    carried_before u v =
        map (λ s. entry (image_sides (b.image s) (unmove_sides p u v))) (filter (gives_unmove b (turn p) (turn (unmove_sides p u v)).own) (all_symmetries b))

    -- those by some moves
    abbrev canonicalizing : List Move → List ℕ
    canonicalizing moves = flat_map (λ m. carried_before m.from m.to) moves

    -- whether symmetry s gives the predecessor j by a move to p
    abbrev from_entry : ℕ → Move → ℕ → Bool
    from_entry j m s = gives_unmove b (turn p) (turn (unmove p m)).own s && eqb (entry (image_sides (b.image s) (unmove p m))) j

    -- whether a move of x leads to the entry of p, by the inverse of symmetry s
    abbrev to_entry : Sides → Move → ℕ → Bool
    to_entry x m s = eqb (entry (result_of x m)) (entry p) && eqb (symmetry_of b (turn (result_of x m)).own) (inverse_of s)

    led_here : canonical_there b turn p ≡ p
    led_here = canonical_none b low y o c turn laws p h own

    module _ (m : Move) (k : Contains (all_before b p) m) where
      has_led : HasLed b p m
      has_led = canonical_by b p m k

      before_of : is_of c (unmove p m) ≡ true
      before_of = led-of b low c pair p h of m has_led

      before_position : IsPosition b (unmove p m)
      before_position = is_position b low c pair (unmove p m) (led-placed b low c pair p h of m has_led) before_of

    -- a position whose entry is that of p, by the inverse of s, is the image of p
    landed : (t : Sides) → IsPosition b t → is_of c t ≡ true → entry t ≡ entry p → (s : ℕ) → s < b.symmetries → symmetry_of b (turn t).own ≡ inverse_of s
        → t ≡ image_sides (b.image s) p
    landed t position t_of same s in_range by =
        let alone : image_sides (b.image (symmetry_of b (turn t).own)) t ≡ image_sides (b.image (symmetry_of b (turn p).own)) p =
        laws.alone t p position h t_of of same in
        let there : image_sides (b.image (inverse_of s)) t ≡ p = ap (λ u. image_sides (b.image u) t) (sym by) ∙ alone ∙ led_here in
        sym (back_and_there s in_range t position) ∙ ap (image_sides (b.image s)) there

    -- and the image of p has that entry
    lands : (s : ℕ) → s < b.symmetries → symmetry_of b (turn (image_sides (b.image s) p)).own ≡ inverse_of s → entry (image_sides (b.image s) p) ≡ entry p
    lands s in_range by =
        let t : Sides = image_sides (b.image s) p in
        let there : image_sides (b.image (symmetry_of b (turn t).own)) t ≡ p = ap (λ u. image_sides (b.image u) t) by ∙ there_and_back s in_range p h in
        sym (laws.there t (carried_position s in_range p h) (carried_of s in_range p h of)) ∙ ap entry there

    module _ (j : ℕ) (x : Sides) (x_position : IsPosition b x) (x_of : is_of c x ≡ true) (x_own : own_in b o x ≡ true) (x_at : entry x ≡ j) where
      abbrev quiets : List Move
      quiets = filter is_quiet (moves_of b x)

      laid_here : IsLaid b o c
      laid_here = laid-canonical_form b low y o c turn laws pair

      module _ (m : Move) (k : Contains quiets m) where
        k_moves : Contains (moves_of b x) m × (is_quiet m ≡ true)
        k_moves = filter-contains is_quiet (moves_of b x) m k

        k_legal : IsLegalMove b x m
        k_legal = listed_move b x low x_position.stones m k_moves.0

        k_none : m.taken ≡ None
        k_none = quiet_taken m k_moves.1

        k_position : IsPosition b (result_of x m)
        k_position = IsPosition-result b x low x_position m k_legal

        k_of : is_of c (result_of x m) ≡ true
        k_of = is_of-quiet c x (result_of x m) x_of (count_of-quiet b x low x_position m k_legal k_none) (count_of-mover b x low x_position m k_legal)

      module _ (s : ℕ) (in_range : s < b.symmetries) where
        -- a move that gives the predecessor x comes from the position whose image is x
        carried_is : (m : Move) → Contains (all_before b p) m → from_entry j m s ≡ true → image_sides (b.image s) (unmove p m) ≡ x
        carried_is m k e =
            let parts = and_parts (gives_unmove b (turn p) (turn (unmove p m)).own s) _ e in
            let leads = and_parts (is_canonicalizing b (turn (unmove p m)).own s) _ parts.0 in
            let q = unmove p m in
            let position = before_position m k in
            let there = carried_position s in_range q position in
            laid_here.alone (image_sides (b.image s) q) x (placed b b.points _ refl there) (placed b b.points x refl x_position)
            (carried_of s in_range q position (before_of m k)) x_of (carried_own s in_range q position leads.0) x_own (eqb-true _ _ parts.1 ∙ sym x_at)

        -- a move of x that counts leads to the image of p
        landed_is : (m : Move) → Contains quiets m → to_entry x m s ≡ true → result_of x m ≡ image_sides (b.image s) p
        landed_is m k e =
            let parts = and_parts (eqb (entry (result_of x m)) (entry p)) _ e in
            landed (result_of x m) (k_position m k) (k_of m k) (eqb-true _ _ parts.0) s in_range (eqb-true _ _ parts.1)

        one_before : count_by (λ m. from_entry j m s) (all_before b p) ≤ 1
        one_before = at_most_one (λ m. from_entry j m s) (all_before b p) (moves_before_differ b p) same
          where
            same : (m k : Move) → Contains (all_before b p) m → Contains (all_before b p) k → from_entry j m s ≡ true → from_entry j k s ≡ true → m ≡ k
            same m k at here e g =
                let l = has_led m at in
                let r = has_led k here in
                let both : image_sides (b.image s) (unmove p m) ≡ image_sides (b.image s) (unmove p k) = carried_is m at e ∙ sym (carried_is k here g) in
                let alone : unmove p m ≡ unmove p k =
                sym (there_and_back s in_range (unmove p m) (before_position m at)) ∙ ap (image_sides (b.image (inverse_of s))) both
                ∙ there_and_back s in_range (unmove p k) (before_position k here) in
                let points = moved_same p.other m.to m.from l.end (vacant_parts p m.from l.vacant).1 k.to k.from r.end (vacant_parts p k.from r.vacant).1
                (before_mover p m k alone) in
                alike m k points.1 points.0 l.quiet r.quiet

        q_leads : (m : Move) → Contains quiets m → to_entry x m s ≡ true
            → LeadsTo b low c pair (image_sides (b.image s) p) (carried_position s in_range p h) (carried_of s in_range p h of) x m
        q_leads m k e = record { move = k_legal m k; quiet = k_none m k; result = landed_is m k e }

        one_after : count_by (λ m. to_entry x m s) quiets ≤ 1
        one_after = at_most_one (λ m. to_entry x m s) quiets (Ascends-filter _ is_quiet (moves_of b x) (moves_differ b x)) same
          where
            t : Sides
            t = image_sides (b.image s) p

            t_position : IsPosition b t
            t_position = carried_position s in_range p h

            t_of : is_of c t ≡ true
            t_of = carried_of s in_range p h of

            same : (m k : Move) → Contains quiets m → Contains quiets k → to_entry x m s ≡ true → to_entry x k s ≡ true → m ≡ k
            same m k at here e g =
                let l = q_leads m at e in
                let r = q_leads k here g in
                let points = moved_same x.own m.from m.to l.move.from_own l.move.to_not_own k.from k.to r.move.from_own r.move.to_not_own
                (leads-other b low c pair t t_position t_of x m l ∙ sym (leads-other b low c pair t t_position t_of x k r)) in
                alike m k points.0 points.1 l.quiet r.quiet

        -- a move to p that gives the predecessor x is there a move of x that counts
        before_after : 0 < count_by (λ m. from_entry j m s) (all_before b p) → 0 < count_by (λ m. to_entry x m s) quiets
        before_after some =
            let r = found (λ m. from_entry j m s) (all_before b p) some in
            let m = r.0 in
            let l = has_led m r.1 in
            let q = unmove p m in
            let position = before_position m r.1 in
            let moves = led-moves b low c pair p h of m l in
            let legal = listed_move b q low position.stones m moves in
            let there = carried_is m r.1 r.2 in
            let parts = and_parts (gives_unmove b (turn p) (turn q).own s) _ r.2 in
            let leads = and_parts (is_canonicalizing b (turn q).own s) _ parts.0 in
            let by : symmetry_of b (turn (image_sides (b.image s) p)).own ≡ inverse_of s =
            ap (symmetry_of b) (laws.image s in_range p h) ∙ eqb-true _ _ leads.1 in
            let sym_s = y.symmetry s in_range in
            let k = image_move (b.image s) m in
            let listed : Contains (moves_of b x) k =
            subst (λ z. Contains (moves_of b z) k) there (listed_goes b low (b.image s) (b.image (inverse_of s)) sym_s q position.stones m moves) in
            let result : result_of x k ≡ image_sides (b.image s) p =
            ap (λ z. result_of z k) (sym there)
            ∙ result_of-image b low (b.image s) (b.image (inverse_of s)) sym_s q position.stones m legal.from_within legal.to_within
            (taken_within b low (b.image s) (b.image (inverse_of s)) sym_s q position.stones m legal)
            ∙ ap (image_sides (b.image s)) (led-result b low c pair p h of m l) in
            let quiet : k.taken ≡ None = ap (option_map (b.image s)) l.quiet in
            counted (λ z. to_entry x z s) quiets k (contained-filter is_quiet (moves_of b x) k listed (taken_quiet k quiet))
            (and_from _ _ (eq-eqb _ _ (ap entry result ∙ lands s in_range by)) (eq-eqb _ _ (ap (λ z. symmetry_of b (turn z).own) result ∙ by)))

        -- and the reverse
        after_before : 0 < count_by (λ m. to_entry x m s) quiets → 0 < count_by (λ m. from_entry j m s) (all_before b p)
        after_before some =
            let r = found (λ m. to_entry x m s) quiets some in
            let k = r.0 in
            let moves = k_moves k r.1 in
            let legal = k_legal k r.1 in
            let back_map = b.image (inverse_of s) in
            let sym_b = IsSymmetry-back b _ _ (y.symmetry s in_range) in
            let q : Sides = image_sides back_map x in
            let q_position = back_position s in_range x x_position in
            let q_of = back_of s in_range x x_position x_of in
            let there : image_sides (b.image s) q ≡ x = back_and_there s in_range x x_position in
            let m = image_move back_map k in
            let listed : Contains (moves_of b q) m = listed_goes b low back_map (b.image s) sym_b x x_position.stones k moves.0 in
            let result : result_of q m ≡ p =
            result_of-image b low back_map (b.image s) sym_b x x_position.stones k legal.from_within legal.to_within
            (taken_within b low back_map (b.image s) sym_b x x_position.stones k legal)
            ∙ ap (image_sides back_map) (landed_is k r.1 r.2)
            ∙ there_and_back s in_range p h in
            let quiet : m.taken ≡ None = ap (option_map back_map) (k_none k r.1) in
            let leads : LeadsTo b low c pair p h of q m =
            record { move = listed_move b q low q_position.stones m listed; quiet = quiet; result = result } in
            let q_placed = placed b b.points q refl q_position in
            let has : HasLed b p m = leads-led b low c pair p h of q q_placed m listed leads in
            let to_low : m.to < b.points = leads.move.to_within in
            let is : unmove p m ≡ q = leads-before b low c pair p h of q m leads in
            let x_rep : representative_of b (turn x).own ≡ (turn x).own = eqb-true _ _ (sym (laws.own x) ∙ x_own) in
            let own_there : image_of (b.image s) (turn q).own ≡ (turn x).own =
            sym (laws.image s in_range q q_position) ∙ ap (λ z. (turn z).own) there in
            let canonicalizing : is_canonicalizing b (turn q).own s ≡ true =
            canonicalizing_from b low y s in_range (turn q).own (laws.within q q_position) (ap (representative_of b) own_there ∙ x_rep ∙ sym own_there)
            (subst (λ z. z < 2 ^ b.points) (sym own_there) (laws.within x x_position)) in
            let parts = and_parts (eqb (entry (result_of x k)) (entry p)) _ r.2 in
            let by : symmetry_of b (image_of (b.image s) (turn p).own) ≡ inverse_of s =
            ap (symmetry_of b) (sym (laws.image s in_range p h))
            ∙ ap (λ z. symmetry_of b (turn z).own) (sym (landed_is k r.1 r.2)) ∙ eqb-true _ _ parts.1 in
            counted (λ z. from_entry j z s) (all_before b p) m (led-listed b p m (omega arith) has)
            (and_from _ _
            (and_from _ _ (subst (λ z. is_canonicalizing b (turn z).own s ≡ true) (sym is) canonicalizing) (eq-eqb _ _ by))
            (eq-eqb _ _ (ap (λ z. entry (image_sides (b.image s) z)) is ∙ ap entry there ∙ x_at)))

        counts_same : count_by (λ m. from_entry j m s) (all_before b p) ≡ count_by (λ m. to_entry x m s) quiets
        counts_same = one_each _ _ one_before one_after before_after after_before

      -- a quiet move of x that leads to the entry of p does so by the inverse of just one symmetry
      by_one : (m : Move) → Contains quiets m → cond {A = ℕ} (eqb (entry (result_of x m)) (entry p)) 1 0 ≡ count_by (to_entry x m) (all_symmetries b)
      by_one m k = elim (cases_Bool (eqb (entry (result_of x m)) (entry p))) [
        | inl falls ↦
            let t : Sides = result_of x m in
            let within : symmetry_of b (turn t).own < b.symmetries = symmetry_within b low y (turn t).own (laws.within t (k_position m k)) in
            let most : count_by (to_entry x m) (all_symmetries b) ≤ 1 = at_most_one (to_entry x m) (all_symmetries b) symmetries_differ (same m) in
            let some : 0 < count_by (to_entry x m) (all_symmetries b) =
            counted (to_entry x m) (all_symmetries b) (inverse_of (symmetry_of b (turn t).own))
            (Contains-range 0 b.symmetries (inverse_of (symmetry_of b (turn t).own)) (omega arith) (omega (arith, y.inverse_within (symmetry_of b (turn t).own) within)))
            (and_from _ _ falls (eq-eqb _ _ (sym (y.inverse_twice (symmetry_of b (turn t).own) within)))) in
            let counts : cond {A = ℕ} (eqb (entry (result_of x m)) (entry p)) 1 0 ≡ 1 = cond-true {A = ℕ} _ 1 0 falls in
            omega (arith, most, some, counts)
        | inr fails ↦
            let counts : cond {A = ℕ} (eqb (entry (result_of x m)) (entry p)) 1 0 ≡ 0 = cond-false {A = ℕ} _ 1 0 fails in
            elim (cases_lt 0 (count_by (to_entry x m) (all_symmetries b))) [
              | inl some ↦
                  let r = found (to_entry x m) (all_symmetries b) some in
                  absurd (both_ways _ fails (and_parts (eqb (entry (result_of x m)) (entry p)) _ r.2).0)
              | inr none ↦ omega (arith, counts, none)
            ]
      ]
        where
          symmetries_differ : Ascends (λ (s t : ℕ). s ≡ t → ⊥) (all_symmetries b)
          symmetries_differ = Ascends-weaker (λ s t. s < t) (λ s t. s ≡ t → ⊥) (λ s t less e. omega (arith, less, e)) (all_symmetries b) (Ascends-range 0 b.symmetries)

          same : (m : Move) (s t : ℕ) → Contains (all_symmetries b) s → Contains (all_symmetries b) t → to_entry x m s ≡ true → to_entry x m t ≡ true → s ≡ t
          same m s t at here e g =
              let first = eqb-true _ _ (and_parts (eqb (entry (result_of x m)) (entry p)) _ e).1 in
              let second = eqb-true _ _ (and_parts (eqb (entry (result_of x m)) (entry p)) _ g).1 in
              sym (y.inverse_twice s (omega (arith, (range_bounds 0 b.symmetries s at).1))) ∙ ap inverse_of (sym first ∙ second)
              ∙ y.inverse_twice t (omega (arith, (range_bounds 0 b.symmetries t here).1))

      count_after : times (entry p) (quiet_results b o c x) ≡ sum_by (λ m. count_by (to_entry x m) (all_symmetries b)) quiets
      unfolding quiet_results
      count_after =
          count_by-map (λ z. eqb z (entry p)) (λ m. entry (result_of x m)) quiets
          ∙ count_sum (λ m. eqb (entry (result_of x m)) (entry p)) (λ m. count_by (to_entry x m) (all_symmetries b)) quiets by_one

      count_before : times j (canonicalizing (all_before b p)) ≡ sum_by (λ m. count_by (from_entry j m) (all_symmetries b)) (all_before b p)
      unfolding unmove move_stone
      count_before =
          count_by-flat_map (λ z. eqb z j) (λ m. carried_before m.from m.to) (all_before b p)
          ∙ sum_same _ _ (all_before b p) (λ m at. each m)
        where
          each : (m : Move) → count_by (λ z. eqb z j) (carried_before m.from m.to) ≡ count_by (from_entry j m) (all_symmetries b)
          each m =
              count_by-map (λ z. eqb z j) (λ s. entry (image_sides (b.image s) (unmove p m))) (filter (gives_unmove b (turn p) (turn (unmove p m)).own) (all_symmetries b))
              ∙ count_by-filter (gives_unmove b (turn p) (turn (unmove p m)).own) (λ s. eqb (entry (image_sides (b.image s) (unmove p m))) j) (all_symmetries b)

      times_leading : times j (canonicalizing (all_before b p)) ≡ times (entry p) (quiet_results b o c x)
      times_leading =
          count_before
          ∙ exchange (from_entry j) (all_before b p) (all_symmetries b)
          ∙ sum_same _ _ (all_symmetries b) (λ s at. counts_same s (omega (arith, (range_bounds 0 b.symmetries s at).1)))
          ∙ sym (exchange (to_entry x) quiets (all_symmetries b))
          ∙ sym count_after

    -- each that is listed is the entry of a position that has it for its own
    listed_is : (z : ℕ) → Contains (canonicalizing (all_before b p)) z
        → (x : Sides) × IsPosition b x × (is_of c x ≡ true) × (own_in b o x ≡ true) × (entry x ≡ z)
    unfolding unmove move_stone
    listed_is z at =
        let r = Contains-flat_map_cases (λ m. carried_before m.from m.to) (all_before b p) z at in
        let m = r.0 in
        let t = Contains-map_cases (λ s. entry (image_sides (b.image s) (unmove p m))) (filter (gives_unmove b (turn p) (turn (unmove p m)).own) (all_symmetries b)) z r.2 in
        let passed = filter-contains (gives_unmove b (turn p) (turn (unmove p m)).own) (all_symmetries b) t.0 t.1 in
        let in_range : t.0 < b.symmetries = omega (arith, (range_bounds 0 b.symmetries t.0 passed.0).1) in
        let leads = and_parts (is_canonicalizing b (turn (unmove p m)).own t.0) _ passed.1 in
        let position = before_position m r.1 in (
          image_sides (b.image t.0) (unmove p m),
          carried_position t.0 in_range (unmove p m) position,
          carried_of t.0 in_range (unmove p m) position (before_of m r.1),
          carried_own t.0 in_range (unmove p m) position leads.0,
          t.2,
        )

    -- each entry is listed as often as it leads to that of p
    pub times_leads : (j : ℕ) → times j (canonicalizing (all_before b p)) ≡ times (entry p) ((net_in b o c).quiet j)
    unfolding net_in
    times_leads j = from (at_index b o c j) refl
      where
        laid_here : IsLaid b o c
        laid_here = laid-canonical_form b low y o c turn laws pair

        from : (xs : List Sides) → at_index b o c j ≡ xs
            → times j (canonicalizing (all_before b p)) ≡ times (entry p) (flat_map (quiet_results b o c) (at_index b o c j))
        from [] none = elim (cases_lt 0 (times j (canonicalizing (all_before b p)))) [
          | inl some ↦
              let r = found (λ z. eqb z j) (canonicalizing (all_before b p)) some in
              let w = listed_is r.0 r.1 in
              let there : at_index b o c j ≡ w.0 ∷ [] =
              ap (at_index b o c) (sym (w.4 ∙ eqb-true _ _ r.2)) ∙ at_index-is b low o c laid_here w.0 w.1 w.2 w.3 in
              let one : 0 ≡ 1 = ap length (sym none ∙ there) in
              absurd (omega (arith, one))
          | inr less ↦
              let zero_here : times j (canonicalizing (all_before b p)) ≡ 0 = omega (arith, less) in
              zero_here ∙ sym (ap (λ xs. times (entry p) (flat_map (quiet_results b o c) xs)) none)
        ]
        from (x ∷ xs) e =
            let at : Contains (at_index b o c j) x = subst (λ zs. Contains zs x) (sym e) (Contains-head x xs) in
            let w = at_index-position b low o c laid_here pair j x at in
            let one : at_index b o c j ≡ x ∷ [] = ap (at_index b o c) (sym w.3) ∙ at_index-is b low o c laid_here x w.0 w.1 w.2 in
            times_leading j x w.0 w.1 w.2 w.3
            ∙ ap (times (entry p)) (sym (flat_map-one (quiet_results b o c) x) ∙ ap (flat_map (quiet_results b o c)) (sym one))

    pub nodes_leading : All (λ j. j < count_in b b.points o c) (canonicalizing (all_before b p))
    nodes_leading = All-from_contained (λ j. j < count_in b b.points o c) _ (λ z at.
        let w = listed_is z at in
        subst (λ k. k < count_in b b.points o c) w.4 (laws.below w.0 w.1 w.2))

    pub few_leading : length (canonicalizing (all_before b p)) ≤ 9 * 24 * b.symmetries
    few_leading =
        let each : length (flat_map (λ m. carried_before m.from m.to) (all_before b p)) ≤ length (all_before b p) * b.symmetries =
        length-flat_map_le (λ m. carried_before m.from m.to) b.symmetries (all_before b p) few_each in
        omega (arith, each, mul-le-mul_right b.symmetries (few_moves b low c pair p h of))
      where
        few_each : (m : Move) → length (carried_before m.from m.to) ≤ b.symmetries
        few_each m = omega (
          arith,
          length-map (filter (gives_unmove b (turn p) (turn (unmove_sides p m.from m.to)).own) (all_symmetries b)) (λ s. entry (image_sides (b.image s) (unmove_sides p m.from m.to))),
          length-filter_le (gives_unmove b (turn p) (turn (unmove_sides p m.from m.to)).own) (all_symmetries b),
          length-range_with_len 0 b.symmetries,
        )
