use Rattle.std.proofs.Common.{◌≡◌, ◌^◌, ◌<◌, ℕ, true, false, ◌&&◌, [], Result, Ok, Err, refl, ap, ◌∙◌, arith}
use Rattle.std.proofs.lemmas.Bool.{cases_Bool, and_from, false≢true}
use Rattle.morris_board.specs.Sets.{has, members}
use Rattle.morris_board.specs.Positions.{Sides, is_sized, check_sides}
use Rattle.morris_board.specs.declared.faults.Stones.{Stones}
use Rattle.morris_board.proofs.PointsLaws.{members_all, has-below}
use Rattle.std.proofs.Common.{inl, inr}
use Rattle.morris_lookup.proofs.masks.position_of.Goals as goal

-- a point of a set that has none
none_there : (s p : ℕ) → members s ≡ [] → p < 32 → has s p ≡ true → false ≡ true
none_there s p none low here = members_all s (λ q. false) (rw none refl) p low here

no_common : (own other common : ℕ) → own < 2 ^ 24 → ((p : ℕ) → has common p ≡ (has own p && has other p)) → members common ≡ []
    → (p : ℕ) → has own p ≡ true → has other p ≡ false
no_common own other common small is none p here = elim (cases_Bool (has other p)) [
  | inl there ↦
      absurd (false≢true (none_there common p none (has-below own p (omega arith) here) (is p ∙ and_from (has own p) (has other p) here there)))
  | inr free ↦ free
]

not_sized : (s : Sides) (e : Stones) → Err e ≡ check_sides s → is_sized s ≡ false
not_sized s e refused = elim (cases_Bool (is_sized s)) [
  | inl y ↦ absurd (no (rw y at refused))
  | inr n ↦ n
]
  where
    no : ◌≡◌ {A = Result Sides Stones} (Err e) (Ok s) → ⊥
    no h = cc

pub new-requires : goal.new-requires
new-requires g c =
    let most : 2 ^ g.B.Geometry.shape.points ≡ 2 ^ g.B.Geometry.POINTS = ap (λ n. 2 ^ n) g.met.B.Geometry.point_count in
    record {
      own_within = omega (arith, most, c.from_mask-own.ensures, c.set_count-end.ensures.value, c.if-own-end.false);
      other_within = omega (arith, most, c.from_mask-other.ensures, c.set_count-end.ensures.value, c.if-other-end.false);
      apart = no_common c.from_mask-own.result c.from_mask-other.result c.intersection.result
          (omega (arith, c.from_mask-own.ensures, c.set_count-end.ensures.value, c.set_count-end.ensures.few, c.if-own-end.false)) c.intersection.ensures c.in-None.ensures.rest;
    }

pub returns-in-Err-clause-refused : goal.returns-in-Err-clause-refused
returns-in-Err-clause-refused g c =
    let most : 2 ^ g.B.Geometry.shape.points ≡ 2 ^ g.B.Geometry.POINTS = ap (λ n. 2 ^ n) g.met.B.Geometry.point_count in (
      rw (← c.from_mask-own.ensures, ← c.from_mask-other.ensures) (record {
        own_within = omega (arith, most, c.from_mask-own.ensures, c.set_count-end.ensures.value, c.if-own-end.false);
        other_within = omega (arith, most, c.from_mask-other.ensures, c.set_count-end.ensures.value, c.if-other-end.false);
        apart = no_common c.from_mask-own.result c.from_mask-other.result c.intersection.result
            (omega (arith, c.from_mask-own.ensures, c.set_count-end.ensures.value, c.set_count-end.ensures.few, c.if-own-end.false)) c.intersection.ensures c.in-None.ensures.rest;
      }),
      rw (← c.from_mask-own.ensures, ← c.from_mask-other.ensures) (not_sized _ _ c.in-Err.ensures),
    )
