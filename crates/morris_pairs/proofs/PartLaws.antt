-- A list of which a part is written.
use Rattle.std.proofs.Common.{◌≡◌, ℕ, ◌+◌, ◌-◌, ◌<◌, ◌≤◌, List, ◌++◌, length, take, drop, get_or, sym, subst, ◌∙◌, inl, inr, arith}
use Rattle.std.proofs.lemmas.Bool.{cases_lt}
use Rattle.std.proofs.lemmas.List.{length-take-le, length-drop, get_or-take, get_or_append_left, get_or-append_right}
use borrow.Rule.Slice.PartMut.{put_mid, mid_of, post_of}

-- what holds of each element of a list up to a place, after a part from there on was written of
-- which it holds
pub part_each : {X : Type 0} (d : X) (P : ℕ → X → Type 0) (old part : List X) (done many k : ℕ) → done ≤ length old → many ≤ length part
    → ((v : ℕ) → v < done → P v (get_or old v d)) → ((v : ℕ) → v < many → P (done + v) (get_or part v d))
    → (v : ℕ) → v < done + many → P v (get_or (put_mid done k old part) v d)
part_each d P old part done many k within given before here v low = elim (cases_lt v done) [
  | inl l ↦
      let is : get_or (put_mid done k old part) v d ≡ get_or old v d =
      get_or_append_left (take done old) (part ++ post_of done k old) d v (omega (arith, length-take-le done old within))
      ∙ get_or-take done old v d l in
      subst (P v) (sym is) (before v l)
  | inr past ↦
      let place : done + (v - done) ≡ v = omega arith in
      let is : get_or (put_mid done k old part) v d ≡ get_or part (v - done) d =
      get_or-append_right (take done old) (part ++ post_of done k old) done v d (length-take-le done old within) past
      ∙ get_or_append_left part (post_of done k old) d (v - done) (omega arith) in
      subst (P v) (sym is) (subst (λ i. P i (get_or part (v - done) d)) place (here (v - done) (omega arith)))
]

-- a list that is right up to a place, after a part from there on was written rightly
pub part_read : {X : Type 0} (d : X) (f : ℕ → X) (old part : List X) (done many k : ℕ) → done ≤ length old → many ≤ length part
    → ((v : ℕ) → v < done → get_or old v d ≡ f v) → ((v : ℕ) → v < many → get_or part v d ≡ f (done + v))
    → (v : ℕ) → v < done + many → get_or (put_mid done k old part) v d ≡ f v
part_read d f = part_each d (λ v x. x ≡ f v)

-- how long such a part is
pub part_len : {X : Type 0} (old part : List X) (done : ℕ) → done ≤ length old → length part ≡ length (mid_of done (length old - done) old)
    → length part ≡ length old - done
part_len old part done within e = e ∙ length-take-le (length old - done) (drop done old) (omega (arith, length-drop done old))
