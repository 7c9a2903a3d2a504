-- The cached summaries of captures, by the stones that are left.
use Rattle.std.proofs.Common.{◌≡◌, ℕ, ◌<◌, ◌≤◌, Bool, true, false, not, ◌&&◌, ltb, List, [], ◌∷◌, ◌++◌, map, slice_index, filter, replicate, Some, refl, sym, ap, ◌∙◌, inl, inr, arith}
use Rattle.std.proofs.lemmas.Bool.{cases_eq, both_ways, ne_eqb}
use Rattle.std.proofs.lemmas.List.{flat_map_more, map-append}
use Rattle.std.proofs.lemmas.List.Elements.{filter-append, All-replicate}
use Rattle.std.specs.List.{All, Contains, flat_map}
use Rattle.morris_board.specs.Sets.{has, members, without_point}
use Rattle.morris_board.specs.Boards.{Shape}
use Rattle.morris_board.specs.Positions.{Sides, sides, IsPosition}
use Rattle.morris_board.proofs.PointsLaws.{has-without, has-set_where, same_points, count_of-without}
use Rattle.morris_moves.specs.declared.game_move.Move.{Move}
use Rattle.morris_moves.specs.Rules.{move_stone, move, takable_stones, result_of}
use Rattle.morris_moves.proofs.LegalLaws.{takable_is_other}
use Rattle.morris_moves.proofs.ListLaws.{Contains-head, Contains-tail}
use Rattle.morris_moves.proofs.SetLaws.{point_lt, has-member}
use Rattle.morris_board.proofs.PositionLaws.{other_count}
use Rattle.morris_wave.specs.declared.graph.Exits.{Exits}
use Rattle.morris_wave.specs.Exits.{exits_of}
use Rattle.morris_pairs.specs.declared.rows.Row.{Row}
use Rattle.morris_pairs.specs.Codes.{code_to}
use Rattle.morris_pairs.specs.PairNets.{is_capture}
use Rattle.morris_pairs.specs.Graphs.{exits_by}
use Rattle.morris_pairs.specs.Rows.{may_close, IsRow}
use Rattle.morris_pairs.specs.Captured.{captures_at, captures_to}
use Rattle.morris_pairs.specs.declared.capture_cache.Slot.{Slot}
use Rattle.morris_pairs.specs.CaptureCaches.{open_ends, closers_at, codes_left, IsCached}
use Rattle.morris_pairs.proofs.CaptureLaws.{kept_captures, row_ends, closers_are, open_low, empty_count}

-- ---- empty slots

pub none_kept : (codes : ℕ → ℕ → List ℕ) (n : ℕ) (empty : Slot) → empty.after ≡ 0 → All (IsCached codes) (replicate n empty)
none_kept codes n empty none = All-replicate (IsCached codes) n empty (λ some. absurd (omega (arith, some, none)))

-- ---- summaries of two lists of moves

pub exits_by-joined : (b : Shape) (s : Sides) (xs ys : List Move) (one other both : Exits) → one ≡ exits_by b s xs → other ≡ exits_by b s ys
    → ((before after : List ℕ) → one ≡ exits_of before → other ≡ exits_of after → both ≡ exits_of (before ++ after)) → both ≡ exits_by b s (xs ++ ys)
unfolding exits_by
exits_by-joined b s xs ys one other both e f joined =
    let code : Move → ℕ = λ m. code_to 65534 b (result_of s m) in
    joined (map code (filter is_capture xs)) (map code (filter is_capture ys)) e f
    ∙ ap exits_of (sym (ap (map code) (filter-append is_capture xs ys) ∙ map-append code (filter is_capture xs) (filter is_capture ys)))

-- from stone to stone
pub kept_joined : (b : Shape) (s : Sides) (row : Row) (ends : ℕ) (ts : List ℕ) (t : ℕ) (one other both : Exits)
    → one ≡ exits_by b s (kept_captures row ends ts) → other ≡ exits_by b s (captures_to row.closers t (members ends))
    → ((before after : List ℕ) → one ≡ exits_of before → other ≡ exits_of after → both ≡ exits_of (before ++ after))
    → both ≡ exits_by b s (kept_captures row ends (ts ++ t ∷ []))
kept_joined b s row ends ts t one other both e f joined =
    exits_by-joined b s (kept_captures row ends ts) (captures_to row.closers t (members ends)) one other both e f joined
    ∙ ap (exits_by b s) (flat_map_more (λ x. captures_to row.closers x (members ends)) [] ts t)

-- ---- what the captures of a stone lead to, by the stones that are left

flat_map_same : (f g : ℕ → List ℕ) (vs : List ℕ) → ((v : ℕ) → Contains vs v → f v ≡ g v) → flat_map f vs ≡ flat_map g vs
flat_map_same f g [] same = refl
flat_map_same f g (v ∷ vs) same =
    ap (λ xs. xs ++ flat_map f vs) (same v (Contains-head v vs)) ∙ ap (λ xs. g v ++ xs) (flat_map_same f g vs (λ w c. same w (Contains-tail v vs w c)))

module _ (b : Shape) (s : Sides) (taken : ℕ) where
  abbrev code : Move → ℕ
  code m = code_to 65534 b (result_of s m)

  abbrev code_by : ℕ → ℕ → ℕ
  code_by v u = code_to 65534 b (sides (without_point s.other taken) (move_stone s.own u v))

  coded_at : (v : ℕ) (us : List ℕ) → map code (filter is_capture (map (λ u. move u v (Some taken)) us)) ≡ map (code_by v) us
  unfolding result_of
  coded_at v [] = refl
  coded_at v (u ∷ us) = ap (λ xs. code_by v u ∷ xs) (coded_at v us)

  coded_to : (closers vs : List ℕ) → map code (filter is_capture (captures_to closers taken vs)) ≡ flat_map (λ v. map (code_by v) (members (slice_index closers v))) vs
  coded_to closers [] = refl
  coded_to closers (v ∷ vs) =
      let here : List Move = captures_at taken (slice_index closers v) v in
      let later : List Move = captures_to closers taken vs in
      ap (map code) (filter-append is_capture here later)
      ∙ (map-append code (filter is_capture here) (filter is_capture later)
      ∙ (ap (λ xs. xs ++ map code (filter is_capture later)) (coded_at v (members (slice_index closers v)))
      ∙ ap (λ xs. map (code_by v) (members (slice_index closers v)) ++ xs) (coded_to closers vs)))

module _ (b : Shape) (n : ℕ) (points : b.points ≡ n) (low : n ≤ 24) (s : Sides) (lawful : IsPosition b s) (taken : ℕ) where
  pub some_left : has (takable_stones b s.other) taken ≡ true → 0 < without_point s.other taken
  some_left here =
      let there : has s.other taken ≡ true = takable_is_other b s.other taken here in
      let few : taken < 32 = omega (arith, points, point_lt s.other b.points taken lawful.stones.other_within there) in
      let three = other_count s lawful.sized in
      elim (cases_eq (without_point s.other taken) 0) [
        | inl e ↦ absurd (omega (arith, count_of-without s.other taken few there, empty_count (without_point s.other taken) e, three.0))
        | inr d ↦ omega arith
      ]

  module _ (row : Row) (own : row.own ≡ s.own) (is : IsRow b n row) (apart : has row.closing taken ≡ false) where
    ends_are : open_ends b s.own s.other ≡ open_ends b s.own (without_point s.other taken)
    unfolding open_ends
    ends_are = same_points _ _ (λ v.
        has-set_where b.points (λ x. may_close b s.own x && not (has s.other x)) v
        ∙ elim (cases_eq v taken) [
          | inl e ↦ rw e (closed (ltb taken b.points) (may_close b s.own taken) _ _ (ap (λ k. ltb taken k && may_close b s.own taken) points ∙ sym (row_ends b n points low s lawful row own is taken) ∙ apart))
          | inr d ↦ ap (λ x. ltb v b.points && (may_close b s.own v && not x)) (sym (has-without s.other taken v ∙ rw (ne_eqb v taken d) refl))
        ]
        ∙ sym (has-set_where b.points (λ x. may_close b s.own x && not (has (without_point s.other taken) x)) v))
      where
        closed : (x y z w : Bool) → (x && y) ≡ false → (x && (y && z)) ≡ (x && (y && w))
        closed true true z w h = absurd (both_ways true h refl)
        closed true false z w h = refl
        closed false y z w h = refl

    -- the summary of the captures of the stone is that of the set that they leave
    pub left_tells : (ends : ℕ) → ends ≡ open_ends b s.own s.other → exits_by b s (captures_to row.closers taken (members ends)) ≡ exits_of (codes_left b s.own (without_point s.other taken))
    unfolding exits_by codes_left
    left_tells ends e = rw e (ap exits_of (
        coded_to b s taken row.closers (members (open_ends b s.own s.other))
        ∙ (flat_map_same
        (λ v. map (code_by b s taken v) (members (slice_index row.closers v)))
        (λ v. map (code_by b s taken v) (members (closers_at b s.own v)))
        (members (open_ends b s.own s.other))
        (λ v c. ap (λ k. map (code_by b s taken v) (members k))
        (closers_are b n points low s lawful row own is v (open_low b n points low s lawful v (has-member (open_ends b s.own s.other) v c))))
        ∙ ap (λ k. flat_map (λ v. map (code_by b s taken v) (members (closers_at b s.own v))) (members k)) ends_are)))
