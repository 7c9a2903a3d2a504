use Rattle.std.proofs.Common.{◌≡◌, ◌++◌, ◌<◌, ◌≤◌, ℕ, ◌+◌, false, not, leb, eqb, List, length, get_or, inl, inr, ⊎_elim, sym, ap, subst, ◌∙◌, arith}
use Rattle.std.specs.List.{list_any}
use Rattle.std.proofs.lemmas.Bool.{and_parts, and_cases, leb-true, leb-false, not-true, not-false}
use Rattle.morris_wave.specs.Values.{HasCode}
use Rattle.morris_wave.proofs.Stretches.{last_deep}
use Rattle.morris_wave.proofs.Wholes.{finished, finished_shallow}
use Rattle.morris_wave.proofs.sweeping.codes_of.Given as given
use Rattle.morris_wave.proofs.sweeping.codes_of.Goals as goal
use Rattle.morris_wave.proofs.sweeping.codes_of.Goals.{In_ok-add_to}

-- the waves ended, since no exit is due later and the last one found nothing
ended : (g : given.Over) (c : In_ok-add_to g) → (c.run.new.whole.last_due ≤ c.run.new.whole.entries.wave)
    × (list_any (λ (x : ℕ). eqb x (c.run.new.whole.entries.wave + 1)) c.run.new.whole.entries.codes ≡ false)
ended g c =
    let whole = c.run.new.whole in
    let found = list_any (λ (x : ℕ). eqb x (whole.entries.wave + 1)) whole.entries.codes in
    let w = and_parts (leb whole.last_due whole.entries.wave) (not found) (sym c.in_ok-run.ensures.quiet ∙ c.if-branch.true) in
    (leb-true whole.last_due whole.entries.wave w.0, not-true found w.1)

-- the codes of the nodes, and no others
written : (g : given.Over) (c : In_ok-add_to g) → c.add_to.new.list.items ≡ c.run.new.whole.entries.codes
written g c = c.in_ok-add_to.ensures ∙ ap (λ (xs : List ℕ). xs ++ c.run.new.whole.entries.codes) c.in_ok-codes.ensures.items

pub returns-in_ok-add_to-clause-codes : goal.returns-in_ok-add_to-clause-codes
returns-in_ok-add_to-clause-codes g c =
    let net = g.G.Name.Levels.net (g.G.Graph.level c.args.graph.now) in
    let law = g.G.Name.Levels.lawful (g.G.Graph.level c.args.graph.now) in
    let whole = c.run.new.whole in
    let end = ended g (goal.at.returns-in_ok-add_to-clause-codes g c).In_ok-add_to in
    subst (λ (xs : List ℕ). (i : ℕ) → i < net.size → HasCode net i (get_or xs i 0)) (sym (written g (goal.at.returns-in_ok-add_to-clause-codes g c).In_ok-add_to))
    (finished law c.in_ok-run.ensures.done.holds c.in_ok-run.ensures.done.len end.0 end.1)

pub returns-in_ok-add_to-clause-not_too_deep : goal.returns-in_ok-add_to-clause-not_too_deep
returns-in_ok-add_to-clause-not_too_deep g c =
    let whole = c.run.new.whole in
    let end = ended g (goal.at.returns-in_ok-add_to-clause-not_too_deep g c).In_ok-add_to in
    finished_shallow (g.G.Name.Levels.lawful (g.G.Graph.level c.args.graph.now)) c.in_ok-run.ensures.done.holds c.in_ok-run.ensures.done.len end.0 end.1 whole.entries.last

pub returns-else-branch-clause-too_deep : goal.returns-else-branch-clause-too_deep
returns-else-branch-clause-too_deep g c = λ _.
    let net = g.G.Name.Levels.net (g.G.Graph.level c.args.graph.now) in
    let law = g.G.Name.Levels.lawful (g.G.Graph.level c.args.graph.now) in
    let whole = c.run.new.whole in
    let codes = whole.entries.codes in
    let late = leb whole.last_due whole.entries.wave in
    let found = list_any (λ (x : ℕ). eqb x (whole.entries.wave + 1)) codes in
    let wave : whole.entries.wave ≡ 65534 = c.in_ok-run.ensures.last c.if-branch.false in
    last_deep law c.in_ok-run.ensures.done.holds wave
    (⊎_elim
    (λ e. inl (leb-false whole.last_due whole.entries.wave e))
    (λ e. inr (not-false found e))
    (and_cases late (not found) (sym c.in_ok-run.ensures.quiet ∙ c.if-branch.false)))

pub returns-in_ok-add_to-clause-len : goal.returns-in_ok-add_to-clause-len
returns-in_ok-add_to-clause-len g c = omega (arith, ap length (written g (goal.at.returns-in_ok-add_to-clause-len g c).In_ok-add_to), c.add_to.new.list.ok.0, c.in_ok-run.ensures.done.len)

pub returns-in_err-run-clause-watched : goal.returns-in_err-run-clause-watched
returns-in_err-run-clause-watched g c = c.run.ensures.watched

pub returns-in_err-codes-clause-watched : goal.returns-in_err-codes-clause-watched
returns-in_err-codes-clause-watched g c = c.run.ensures.watched

pub returns-in_err-add_to-clause-watched : goal.returns-in_err-add_to-clause-watched
returns-in_err-add_to-clause-watched g c = c.run.ensures.watched

pub returns-in_ok-add_to-clause-watched : goal.returns-in_ok-add_to-clause-watched
returns-in_ok-add_to-clause-watched g c = c.run.ensures.watched

pub returns-else-branch-clause-watched : goal.returns-else-branch-clause-watched
returns-else-branch-clause-watched g c = c.run.ensures.watched
