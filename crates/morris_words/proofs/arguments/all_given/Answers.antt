use Rattle.std.proofs.Common.{◌≡◌, ◌∙◌, [], ap, sym, map, option_map, unwrap_or, Some}
use Rattle.std.proofs.lemmas.Result.{IfOk-weaker}
use Rattle.clap.specs.Words.{all_of, found_of, rows_of}
use Rattle.clap.proofs.WalkLemmas.{raw_values-rows}
use Rattle.morris_words.proofs.arguments.all_given.Goals as goal

pub returns-in-Some : goal.returns-in-Some
returns-in-Some c =
    let read = c.get_strs.ensures ∙ raw_values-rows (found_of c.args.found.now) c.args.name.now in
    let all : all_of c.args.name.now (rows_of (found_of c.args.found.now)) ≡ Some (map (λ t. t.now) c.in-Some.strings.now) =
    sym read ∙ ap (option_map (λ s. map (λ t. t.now) s.now)) c.in-Some.is in
    IfOk-weaker c.to_vec.result _ _ (λ v h. ap (λ o. unwrap_or o []) all ∙ ap (map (λ t. t.now)) (sym (h (λ x y same. same)))) c.to_vec.ensures.items_if_clones_equal

pub returns-in-None : goal.returns-in-None
returns-in-None c =
    let read = c.get_strs.ensures ∙ raw_values-rows (found_of c.args.found.now) c.args.name.now in
    let none = sym read ∙ ap (option_map (λ s. map (λ t. t.now) s.now)) c.in-None.is in
    ap (λ o. unwrap_or o []) none ∙ ap (map (λ t. t.now)) (sym c.new.ensures.items)
