use Rattle.std.proofs.Common.{◌≡◌, ◌<◌, ℕ, List, length, get_or, [], vec_len, sym, ap, ◌∙◌, ⊎_elim, arith}
use Rattle.std.proofs.lemmas.Bool.{cases_lt}
use Rattle.std.proofs.lemmas.List.{get_or_read, nil_from_length}
use Rattle.morris_wave.specs.Bytes.{of_bytes}
use Rattle.morris_wave.proofs.TwoBytes.{length-of_bytes, low_alone, read}
use Rattle.morris_wave.proofs.codes.Codes.get.Goals as goal

pub index-requires : goal.index-requires
index-requires c =
    let inside = c.self.inside in
    omega (arith, c.requires, ap length c.self.view_is, length-of_bytes inside.low.items inside.high.items, inside.low.ok.0)

pub returns-then-place-len : goal.returns-then-place-len
returns-then-place-len c =
    let low = c.self.inside.low in
    let high = c.self.inside.high in
    let within : c.args.place < length low.items = omega (arith, c.requires, ap length c.self.view_is, length-of_bytes low.items high.items) in
    let there : c.args.place < length high.items = omega (arith, c.if-place-len.true, c.len.ensures, high.ok.0) in
    omega (
      arith,
      get_or_read low.items c.args.place c.index.result.now within c.index.ensures 0,
      get_or_read high.items c.args.place c.index-then-place-len.result.now there c.index-then-place-len.ensures 0,
      read low.items high.items c.args.place within,
      ap (λ (xs : List ℕ). get_or xs c.args.place 0) c.self.view_is,
    )

pub returns-else-place-len : goal.returns-else-place-len
returns-else-place-len c =
    let low = c.self.inside.low in
    let high = c.self.inside.high in
    let within : c.args.place < length low.items = omega (arith, c.requires, ap length c.self.view_is, length-of_bytes low.items high.items) in
    let empty : length high.items ≡ 0 =
    ⊎_elim
    (λ some. absurd (omega (arith, c.self.invariant.1 some, c.if-place-len.false, c.len.ensures, low.ok.0, within)))
    (λ few. omega (arith, few, high.ok.0))
    (cases_lt 0 (vec_len high)) in
    let none : high.items ≡ [] = nil_from_length high.items empty in
    omega (
      arith,
      get_or_read low.items c.args.place c.index.result.now within c.index.ensures 0,
      ap (λ (xs : List ℕ). get_or xs c.args.place 0) (sym (ap (of_bytes low.items) none ∙ low_alone low.items) ∙ c.self.view_is),
    )
