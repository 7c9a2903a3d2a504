use Rattle.std.proofs.Common.{◌≡◌, true, not, Result, Ok, Err, ap, ◌∙◌, arith}
use Rattle.std.specs.Result.{OnOk, is_ok}
use Rattle.std.proofs.lemmas.Bool.{false≢true}
use Rattle.morris_pairs.proofs.row_predecessors.list_predecessors_by_rows.Goals as goal

at_ok : {T E P : Type 0} (r : Result T E) → is_ok r ≡ true → OnOk r P → P
at_ok (Ok x) e h = h
at_ok (Err y) e h = absurd (false≢true e)

pub returns-clause-times : goal.returns-clause-times
returns-clause-times g c =
    let done : is_ok c.add_predecessors_by_rows.result ≡ true = c.is_err.ensures.negation ∙ ap not c.if-is_err.false in
    (at_ok c.add_predecessors_by_rows.result done c.add_predecessors_by_rows.ensures).often

pub returns-clause-nodes : goal.returns-clause-nodes
returns-clause-nodes g c =
    let done : is_ok c.add_predecessors_by_rows.result ≡ true = c.is_err.ensures.negation ∙ ap not c.if-is_err.false in
    (at_ok c.add_predecessors_by_rows.result done c.add_predecessors_by_rows.ensures).inside

pub returns-clause-few : goal.returns-clause-few
returns-clause-few g c =
    let done : is_ok c.add_predecessors_by_rows.result ≡ true = c.is_err.ensures.negation ∙ ap not c.if-is_err.false in
    omega (arith, (at_ok c.add_predecessors_by_rows.result done c.add_predecessors_by_rows.ensures).few, c.add_predecessors_by_rows.new.out.ok.0)
