use Rattle.std.proofs.Common.{◌≡◌, ◌<◌, ◌+◌, ◌*◌, ◌/◌, ◌%◌, ℕ, List, [], length, set, vec_len, sym, ap, ◌∙◌, ⊎_elim, arith}
use Rattle.std.proofs.lemmas.Bool.{cases_lt}
use Rattle.std.proofs.lemmas.List.{nil_from_length}
use Rattle.morris_wave.specs.Bytes.{of_bytes}
use Rattle.morris_wave.proofs.TwoBytes.{length-of_bytes, low_alone, write}
use Rattle.morris_wave.proofs.codes.Codes.put.Goals as goal

pub index_mut-requires : goal.index_mut-requires
index_mut-requires c =
    let inside = c.self.inside in
    omega (arith, c.requires, ap length c.self.view_is, length-of_bytes inside.low.items inside.high.items, inside.low.ok.0)

pub returns-then-place-len : goal.returns-then-place-len
returns-then-place-len c =
    let low = c.self.inside.low in
    let high = c.widen.new.high in
    let place = c.args.place in
    let code = c.args.code in
    let within : place < length low.items = omega (arith, c.requires, ap length c.self.view_is, length-of_bytes low.items c.self.inside.high.items) in
    let many : length high.items ≡ length low.items = omega (arith, c.if-place-len.true, c.len-2.ensures, c.widen.ensures.len, c.len.ensures, high.ok.0, low.ok.0) in
    let both : code % 256 + code / 256 * 256 ≡ code = omega arith in
    write low.items high.items place (code % 256) (code / 256) within many
    ∙ (ap (λ (n : ℕ). set (of_bytes low.items high.items) place n) both
    ∙ ap (λ (xs : List ℕ). set xs place code) (c.widen.ensures.same low.items ∙ c.self.view_is))

pub returns-else-place-len : goal.returns-else-place-len
returns-else-place-len c =
    let low = c.self.inside.low in
    let high = c.widen.new.high in
    let place = c.args.place in
    let code = c.args.code in
    let within : place < length low.items = omega (arith, c.requires, ap length c.self.view_is, length-of_bytes low.items c.self.inside.high.items) in
    let empty : length high.items ≡ 0 =
    ⊎_elim
    (λ some. absurd (omega (arith, c.widen.ensures.len some, c.if-place-len.false, c.len-2.ensures, c.len.ensures, low.ok.0, within)))
    (λ few. omega (arith, few, high.ok.0))
    (cases_lt 0 (vec_len high)) in
    let none : high.items ≡ [] = nil_from_length high.items empty in
    let small : code % 256 ≡ code =
    ⊎_elim
    (λ large. absurd (omega (arith, c.widen.ensures.enough large, empty, high.ok.0, c.len.ensures, low.ok.0, within)))
    (λ few. omega (arith, few))
    (cases_lt 255 code) in
    ap (of_bytes (set low.items place (code % 256))) none
    ∙ (low_alone (set low.items place (code % 256))
    ∙ (ap (λ (n : ℕ). set low.items place n) small
    ∙ ap (λ (xs : List ℕ). set xs place code) (sym (ap (of_bytes low.items) none ∙ low_alone low.items) ∙ (c.widen.ensures.same low.items ∙ c.self.view_is))))
