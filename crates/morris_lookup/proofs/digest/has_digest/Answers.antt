use Rattle.std.proofs.Common.{ℕ, ◌≡◌, ◌-◌, length, drop, refl, ap₂, ◌∙◌, arith}
use Rattle.std.proofs.lemmas.Bool.{le-leb, lt-leb}
use Rattle.std.proofs.lemmas.List.{take_all, length-drop}
use Rattle.std.specs.Str.{bytes_eq}
use Rattle.morris_lookup.specs.Digests.{has_digest}
use Rattle.morris_lookup.proofs.digest.has_digest.Goals as goal

pub returns-then-bytes-lt-DIGEST : goal.returns-then-bytes-lt-DIGEST
unfolding has_digest
returns-then-bytes-lt-DIGEST c = rw (lt-leb 32 (length c.args.bytes.now) c.if-bytes-lt-DIGEST.true) refl

pub returns : goal.returns
unfolding has_digest
returns c =
    let end : ℕ = length c.args.bytes.now - 32 in
    let stated : c.copy_from_slice.new.self ≡ drop end c.args.bytes.now =
    c.copy_from_slice.ensures.after ∙ take_all (length c.args.bytes.now - end) (drop end c.args.bytes.now) (omega (arith, length-drop end c.args.bytes.now)) in
    rw (le-leb 32 (length c.args.bytes.now) c.if-bytes-lt-DIGEST.false) (c.eq.ensures ∙ ap₂ bytes_eq stated c.digest.ensures)
