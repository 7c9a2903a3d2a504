-- What a write took is the front of what was left, so it follows what went out before.
use Rattle.std.proofs.Common.{◌≡◌, ℕ, ◌+◌, ◌-◌, List, ◌++◌, length, take, drop, sym, ap, ◌∙◌, subst, rules}
use Rattle.std.proofs.lemmas.List.{take_rest}
use Rattle.std.proofs.Math.Seq.{take-add}
use Rattle.std.proofs.KnownBytes.{Appends-trans}
use Rattle.std.specs.Io.KnownBytes.{Appends}
use Rattle.morris_board.proofs.streams.put.Goals as goal

-- the first `done` bytes, and then the front of the rest
fronts : (text : List ℕ) (done taken : ℕ) → take done text ++ take taken (take (length text - done) (drop done text)) ≡ take (done + taken) text
fronts text done taken = ap (λ rest. take done text ++ take taken rest) (take_rest text done) ∙ sym (take-add done taken text)

pub loop-done-preserved : goal.loop-done-preserved
loop-done-preserved g c =
    let text = c.args.text.now in
    record {
      within = search rules;
      appended = subst (Appends _ _) (fronts text c.loop-done.done c.in-Ok.taken) (Appends-trans _ _ _ _ _ c.loop-done.invariant.appended c.in-Ok.ensures.bytes);
      uncounted = c.in-Ok.ensures.counted ∙ c.loop-done.invariant.uncounted;
    }
