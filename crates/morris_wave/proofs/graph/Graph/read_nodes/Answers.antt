use Rattle.std.proofs.Common.{◌≡◌, ℕ, ◌+◌, ◌<◌, List, length, get_or, set, sym, subst, ◌∙◌, ⊎_elim, arith, get_or-set_other, get_or-set_same}
use Rattle.std.proofs.Math.ListN.{length-set}
use Rattle.std.proofs.lemmas.Bool.{cases_eq}
use Rattle.morris_wave.specs.declared.graph.Exits.{Exits}
use Rattle.morris_wave.specs.Exits.{exits_of, no_exits}
use Rattle.morris_wave.proofs.graph.Graph.read_nodes.Goals as goal

set_more : {A : Type 0} (f : ℕ → A) (xs : List A) (place : ℕ) (x d : A) → place < length xs → x ≡ f place → ((k : ℕ) → k < place → get_or xs k d ≡ f k) → (k : ℕ) → k < place + 1
    → get_or (set xs place x) k d ≡ f k
set_more f xs place x d inside is h k l =
    ⊎_elim
    (λ e. subst (λ i. get_or (set xs place x) i d ≡ f i) e (get_or-set_same xs place x d inside ∙ is))
    (λ e. get_or-set_other xs place k x d (λ z. e (sym z)) ∙ h k (omega (arith, l, e)))
    (cases_eq place k)

pub loop-place-preserved : goal.loop-place-preserved
loop-place-preserved g c =
    let inv = c.loop-place.invariant in
    let net = g.Self.Name.Levels.net (g.Self.Graph.level c.args.self.now) in
    let first = c.args.first in
    let place = c.loop-place.place in
    record {
      counts_len = omega (arith, length-set {A = ℕ}, inv.counts_len);
      exits_len = omega (arith, length-set {A = Exits}, inv.exits_len);
      counts = set_more (λ (k : ℕ). length (net.quiet (first + k))) c.loop-place.counts place c.quiet_count.result 0 (omega (arith, c.loop-place-test.true, inv.counts_len)) c.quiet_count.ensures inv.counts;
      exits = set_more (λ (k : ℕ). exits_of (net.exits (first + k))) c.loop-place.exits place c.exits.result no_exits (omega (arith, c.loop-place-test.true, inv.exits_len, c.requires.room)) c.exits.ensures inv.exits;
    }
