use Rattle.std.proofs.Common.{◌≡◌, ◌<◌, ◌≤◌, vec_len, ◌++◌, ◌∷◌, [], ℕ, List, length, take, sym, ap, subst, ◌∙◌, arith, append_assoc}
use Rattle.std.specs.Result.{OnOk}
use Rattle.std.proofs.lemmas.Bool.{eqb-true}
use Rattle.std.proofs.lemmas.List.{nil_from_length, take_all, take_more}
use Rattle.morris_wave.specs.Bytes.{of_bytes}
use Rattle.morris_wave.proofs.TwoBytes.{low_alone}
use Rattle.morris_wave.proofs.codes.Codes.add_to.Goals as goal

pub returns-then-is_empty : goal.returns-then-is_empty
returns-then-is_empty c =
    let low = c.self.inside.low.items in
    let high = c.self.inside.high.items in
    let none : high ≡ [] = nil_from_length high (omega (arith, eqb-true (vec_len c.self.inside.high) 0 (sym c.is_empty.ensures ∙ c.if-is_empty.true), c.self.inside.high.ok.0)) in
    let same : low ≡ c.args.self.now = sym (low_alone low) ∙ (ap (of_bytes low) (sym none) ∙ c.self.view_is) in
    subst (λ (xs : List ℕ). OnOk c.add_bytes.result (c.add_bytes.new.list.items ≡ c.args.list.now.items ++ xs)) (c.deref.ensures.value ∙ same) c.add_bytes.ensures

pub loop-place-preserved : goal.loop-place-preserved
loop-place-preserved c =
    let codes = c.args.self.now in
    let old = c.args.list.now.items in
    let done = take c.loop-place.place codes in
    let within : c.loop-place.place < length codes = omega arith in
    c.in_ok-push.ensures.items
    ∙ (ap (λ (xs : List ℕ). xs ++ c.get.result ∷ []) c.loop-place.invariant
    ∙ (append_assoc old done (c.get.result ∷ [])
    ∙ ap (λ (xs : List ℕ). old ++ xs) (ap (λ (code : ℕ). done ++ code ∷ []) c.get.ensures ∙ sym (take_more codes c.loop-place.place 0 within))))

pub returns : goal.returns
returns c =
    let codes = c.args.self.now in
    let all : length codes ≤ c.loop-place.place = omega arith in
    c.loop-place.invariant ∙ ap (λ (xs : List ℕ). c.args.list.now.items ++ xs) (take_all c.loop-place.place codes all)
