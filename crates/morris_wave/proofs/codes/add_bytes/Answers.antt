use Rattle.std.proofs.Common.{◌++◌, ℕ, List, rules, ap, ◌∙◌}
use Rattle.std.proofs.lemmas.List.{map-id}
use Rattle.std.proofs.lemmas.Result.{on_ok_weaker}
use Rattle.std.proofs.lemmas.Iterator.{YieldsList-from_map, YieldsList-from_slice}
use Rattle.std.proofs.lemmas.Iterator.Consumers.{YieldsList-at}
use Rattle.std.proofs.lemmas.Iterator.Adapters.{items_from_extend}
use Rattle.morris_wave.proofs.codes.add_bytes.Goals as goal

pub returns : goal.returns
returns c =
    let bytes = c.args.bytes.now in
    let old = c.args.list.now.items in
    let given = items_from_extend c.extend.result c.extend.ensures.ran
    (YieldsList-from_map _ (λ (byte : ℕ). byte) (YieldsList-at c.map.ensures.source (YieldsList-from_slice bytes c.iter.ensures.rest)) c.map.ensures.closure (λ x r q k. search rules)) in
    on_ok_weaker c.extend.result (λ h. h.0 ∙ ap (λ (xs : List ℕ). old ++ xs) (map-id bytes)) given
