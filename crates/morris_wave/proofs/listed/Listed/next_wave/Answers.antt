use Rattle.std.proofs.Common.{◌≡◌, ℕ, ◌+◌, ◌-◌, List, drop, length, length-drop, refl, sym, subst, arith}
use Rattle.morris_wave.specs.NodeRanges.{Ranked}
use Rattle.morris_wave.proofs.Ranks.{ranked_next, ranked_drop}
use Rattle.morris_wave.proofs.listed.Listed.next_wave.Goals as goal

pub invariant_of-self-clause-ranked : goal.invariant_of-self-clause-ranked
invariant_of-self-clause-ranked g c =
    let s = c.args.self.now in
    let codes = s.codes in
    let all = g.L.NodeList.items s.decided in
    let gone = c.forget-gone.result in
    let rest = c.forget-gone.ensures.items in
    let left : length all - gone ≡ c.count-self.result =
    omega (arith, c.count-self.ensures, length-drop gone all, subst (λ (xs : List ℕ). length xs ≡ length (drop gone all)) (sym rest) refl) in
    subst (λ (xs : List ℕ). Ranked g.L.NodeList.retains s.first (s.wave + 1) codes xs (s.here - gone) c.count-self.result) (sym rest)
    (subst (λ (n : ℕ). Ranked g.L.NodeList.retains s.first (s.wave + 1) codes (drop gone all) (s.here - gone) n) left
    (ranked_drop s.first (s.wave + 1) s.here (length all) codes all (ranked_next s.first s.wave s.before s.here codes all s.ranked) gone c.forget-gone.ensures.few c.forget-gone.ensures.retained))
