-- The quiet un-moves that are listed are the quiet moves that lead to a position, in order, and
-- there are few of them.
use Rattle.std.proofs.Common.{◌≡◌, ℕ, ◌*◌, ◌<◌, ◌≤◌, true, false, not, ◌&&◌, ltb, length, ◌↔◌, map, refl, sym, ap, ap₂, subst, ◌∙◌, inl, inr, arith, None}
use Rattle.std.proofs.lemmas.Bool.{cases_Bool, cases_lt, lt-ltb, le-ltb, ltb-true, and_parts, and_from, not-true, not_from_false, both_ways}
use Rattle.std.proofs.Math.ListN.{length-map}
use Rattle.std.specs.List.{AllPairs, Contains, flat_map}
use Rattle.morris_board.specs.Sets.{has, members, count_of}
use Rattle.morris_board.specs.Boards.{Shape}
use Rattle.morris_board.specs.Positions.{Sides, IsPosition}
use Rattle.morris_board.proofs.PointsLaws.{members-none, has-none, has-set_where}
use Rattle.morris_board.proofs.SetLaws.{lt_from_points, count_of-below, count_of-part}
use Rattle.morris_board.proofs.PositionLaws.{other_count}
use Rattle.morris_moves.specs.declared.game_move.Move.{Move}
use Rattle.morris_moves.specs.Rules.{in_mill, is_vacant, goes, free_stones, move}
use Rattle.morris_moves.specs.Backward.{LeadsTo, MovePrecedes, unmove, has_come}
use Rattle.morris_moves.specs.Listing.{AreVacant, stones_to_unmove, targets, back, backs_from, backs_left}
use Rattle.morris_moves.proofs.ListLaws.{Ascends, Ascends-flat_map, Ascends-map, AllPairs-from_Ascends, Contains-map, Contains-map_cases, Contains-flat_map, Contains-flat_map_cases, length-flat_map_le}
use Rattle.morris_moves.proofs.SetLaws.{has-member, member-has, Ascends-members}
use Rattle.morris_moves.proofs.MaskLaws.{IsVacancy}
use Rattle.morris_moves.proofs.OrderLaws.{by_from, by_to}
use Rattle.morris_moves.proofs.BackLaws.{end_within, come, come_vacant, leads-before, led}
use Rattle.morris_moves.proofs.ListingLaws.{arrived-few, arrived-enough, targets-has}

-- ---- the stones that may have come from a point

pub record IsTarget (b : Shape) (q : Sides) (u v : ℕ) : Type 0 where
  pub end : has q.other v ≡ true
  pub open_ : in_mill b q.other v ≡ false
  pub steps : goes b (count_of q.other) u v ≡ true
  pub enough : 3 ≤ count_of q.own

arrived-is : (b : Shape) (q : Sides) (v : ℕ) → has (stones_to_unmove b q) v ≡ true → (3 ≤ count_of q.own) × (has q.other v ≡ true) × (in_mill b q.other v ≡ false)
unfolding free_stones
arrived-is b q v h = elim (cases_Bool (ltb (count_of q.own) 3)) [
  | inl few ↦ absurd (both_ways _ (has-none v) (rw (arrived-few b q few) at h))
  | inr enough ↦
      let free : has (free_stones b q.other) v ≡ true = rw (arrived-enough b q enough) at h in
      let parts = and_parts _ _ (sym (has-set_where b.points (λ t. has q.other t && not (in_mill b q.other t)) v) ∙ free) in
      let more = and_parts (has q.other v) (not (in_mill b q.other v)) parts.1 in
      (not_less (count_of q.own) enough, more.0, not-true _ more.1)
]
  where
    not_less : (n : ℕ) → ltb n 3 ≡ false → 3 ≤ n
    not_less n f = elim (cases_lt n 3) [
      | inl low ↦ absurd (both_ways _ f (lt-ltb n 3 low))
      | inr high ↦ high
    ]

is-arrived : (b : Shape) (q : Sides) (v : ℕ) → v < b.points → 3 ≤ count_of q.own → has q.other v ≡ true → in_mill b q.other v ≡ false
    → has (stones_to_unmove b q) v ≡ true
unfolding free_stones
is-arrived b q v low enough end open_ =
    ap (λ s. has s v) (arrived-enough b q (le-ltb (count_of q.own) 3 enough))
    ∙ (has-set_where b.points (λ t. has q.other t && not (in_mill b q.other t)) v
    ∙ and_from _ _ (lt-ltb v b.points low) (and_from _ _ end (not_from_false _ open_)))

pub target : (b : Shape) (q : Sides) (u v : ℕ) → has (targets b q u) v ≡ true → IsTarget b q u v
target b q u v h =
    let parts = and_parts _ _ (sym (targets-has b q u v) ∙ h) in
    let more = and_parts (has (stones_to_unmove b q) v) (goes b (count_of q.other) u v) parts.1 in
    let is = arrived-is b q v more.0 in
    record { end = is.1; open_ = is.2; steps = more.1; enough = is.0 }

is-target : (b : Shape) (q : Sides) (u v : ℕ) → v < b.points → IsTarget b q u v → has (targets b q u) v ≡ true
is-target b q u v low h =
    targets-has b q u v ∙ and_from _ _ (lt-ltb v b.points low) (and_from _ _ (is-arrived b q v low h.enough h.end h.open_) h.steps)

-- ---- the list

module _ (b : Shape) (small : b.points ≤ 24) (q : Sides) (h : IsPosition b q) (froms : ℕ) (vacant : IsVacancy b q froms) where
  pub all_vacant : AreVacant b q froms
  all_vacant u here =
      let parts = and_parts (ltb u b.points) (is_vacant q u) (sym (vacant u) ∙ here) in
      (ltb-true u b.points parts.0, parts.1)

  all_backs : backs_left b q froms 0 0 ≡ flat_map (backs_from b q) (members froms)
  unfolding backs_left
  all_backs = rw members-none refl

  has_come-target : (u v : ℕ) → u < b.points → is_vacant q u ≡ true → IsTarget b q u v → has_come b q (move u v None) ≡ true
  has_come-target u v start free t =
      come b small q h v t.end u start ∙ and_from _ _ free (and_from _ _ t.steps (not_from_false _ t.open_))

  backs_lead : (p : Sides) (m : Move) → Contains (flat_map (backs_from b q) (members froms)) (p, m) → LeadsTo b q p m
  unfolding backs_from
  backs_lead p m c =
      let r = Contains-flat_map_cases (backs_from b q) (members froms) (p, m) c in
      let u = r.0 in
      let k = Contains-map_cases (back q u) (members (targets b q u)) (p, m) r.2 in
      let v = k.0 in
      let start = all_vacant u (has-member froms u r.1) in
      let t = target b q u v (has-member (targets b q u) v k.1) in
      subst (λ (x : Sides × Move). LeadsTo b q x.0 x.1) k.2
      (leads-before b small q h (move u v None) start.0 t.end refl (has_come-target u v start.0 start.1 t) t.enough)

  leads_back : (p : Sides) (m : Move) → LeadsTo b q p m → Contains (flat_map (backs_from b q) (members froms)) (p, m)
  unfolding backs_from
  leads_back p m l =
      let is = led b small q h p m l in
      let same : move m.from m.to None ≡ m = ap (λ t. move m.from m.to t) (sym l.quiet) in
      let start : has froms m.from ≡ true =
      vacant m.from ∙ and_from _ _ (lt-ltb m.from b.points is.start) (come_vacant b small q h m is.come) in
      let parts = and_parts _ _ (sym (come b small q h m.to is.end m.from is.start) ∙ (ap (has_come b q) same ∙ is.come)) in
      let more = and_parts (goes b (count_of q.other) m.from m.to) (not (in_mill b q.other m.to)) parts.1 in
      let end_low : m.to < b.points = end_within b small q h m.to is.end in
      let t = is-target b q m.from m.to end_low (record { end = is.end; open_ = not-true _ more.1; steps = more.0; enough = is.enough }) in
      let pair : back q m.from m.to ≡ (p, m) = ap₂ (λ (x : Sides) (y : Move). (x, y)) (ap (unmove q) same ∙ sym is.value) same in
      Contains-flat_map (backs_from b q) (members froms) m.from (p, m) (member-has froms m.from (omega (arith, is.start)) start)
      (subst (λ x. Contains (map (back q m.from) (members (targets b q m.from))) x) pair
      (Contains-map (back q m.from) (members (targets b q m.from)) m.to (member-has (targets b q m.from) m.to (omega (arith, end_low)) t)))

  pub backs-listed : (p : Sides) (m : Move) → Contains (backs_left b q froms 0 0) (p, m) ↔ LeadsTo b q p m
  backs-listed p m = (
    (λ c. backs_lead p m (rw all_backs at c)),
    (λ l. rw all_backs (leads_back p m l)),
  )

  backs_from-from : (u : ℕ) (x : Sides × Move) → Contains (backs_from b q u) x → x.1.from ≡ u
  unfolding backs_from
  backs_from-from u x c =
      let r = Contains-map_cases (back q u) (members (targets b q u)) x c in
      ap (λ (y : Sides × Move). y.1.from) (sym r.2)

  Ascends-backs_from : (u : ℕ) → Ascends MovePrecedes (backs_from b q u)
  unfolding backs_from
  Ascends-backs_from u =
      Ascends-map (λ v w. v < w) MovePrecedes (back q u) (members (targets b q u)) (Ascends-members (targets b q u))
      (λ v w l. by_to (move u v None) (move u w None) refl l)

  pub backs-ascending : AllPairs MovePrecedes (backs_left b q froms 0 0)
  backs-ascending = rw all_backs (AllPairs-from_Ascends MovePrecedes _
      (Ascends-flat_map (λ u w. u < w) MovePrecedes (backs_from b q) (members froms) (Ascends-members froms) Ascends-backs_from
      (λ u w x y l c d. by_from x.1 y.1
      (subst (λ k. k < y.1.from) (sym (backs_from-from u x c)) (subst (λ k. u < k) (sym (backs_from-from w y d)) l)))))

  few_targets : (u : ℕ) → length (backs_from b q u) ≤ 9
  unfolding backs_from count_of
  few_targets u =
      let most : count_of q.other ≤ 9 = (other_count q h.sized).1 in
      let part : count_of (targets b q u) ≤ count_of q.other = count_of-part (targets b q u) q.other (λ v here. (target b q u v here).end) in
      rw length-map (omega arith)

  few_sources : length (members froms) ≤ 24
  unfolding count_of
  few_sources = omega (arith, small, count_of-below froms b.points (lt_from_points froms b.points (λ u here. (all_vacant u here).0)))

  pub backs-few : length (backs_left b q froms 0 0) ≤ 24 * 9
  backs-few = rw all_backs (omega (arith, length-flat_map_le (backs_from b q) 9 (members froms) few_targets, few_sources))
