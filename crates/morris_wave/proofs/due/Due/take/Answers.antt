use Rattle.std.proofs.Common.{ℕ, List, [], set, ap, ◌∙◌}
use Rattle.std.proofs.lemmas.List.{map-set}
use Rattle.morris_wave.specs.GapLists.{nodes_of}
use Rattle.morris_wave.specs.Lists.{contents}
use Rattle.morris_wave.proofs.due.Due.take.Goals as goal

pub returns-then-place-len-clause-gone : goal.returns-then-place-len-clause-gone
returns-then-place-len-clause-gone c =
    let waves = c.self.inside.waves.items in
    map-set nodes_of waves c.from-place.result c.replace.new.dest
    ∙ (ap (set (contents nodes_of waves) c.from-place.result) (ap nodes_of c.replace.ensures.after ∙ c.none-none.ensures)
    ∙ (ap (λ (t : ℕ). set (contents nodes_of waves) t []) c.from-place.ensures
    ∙ ap (λ (xs : List (List ℕ)). set xs c.args.wave []) c.self.view_is))
