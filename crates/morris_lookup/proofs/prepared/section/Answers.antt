use Rattle.std.proofs.Common.{refl, ◌∙◌, arith}
use Rattle.morris_lookup.proofs.PreparedLaws.{section_within, start-least}
use Rattle.morris_lookup.proofs.prepared.section.Goals as goal
use Rattle.morris_lookup.proofs.prepared.section.Goals.{then-words-lt-PREFACE-via-then-words-lt-PREFACE, then-words-lt-PREFACE-via-else-words-lt-PREFACE+then-words-from, else-start-end-via-then-start-end+else-end-words, else-start-end-via-else-start-end}

pub returns-then-words-lt-PREFACE-clause-found : goal.returns-then-words-lt-PREFACE-clause-found
returns-then-words-lt-PREFACE-clause-found g c = (
  refl,
  λ here. elim c.then-words-lt-PREFACE.branch [
    | then-words-lt-PREFACE-via-then-words-lt-PREFACE w ↦
        absurd (omega (arith, w.if-words-lt-PREFACE.true, here.whole, start-least g.B.Geometry.shape 11))
    | then-words-lt-PREFACE-via-else-words-lt-PREFACE+then-words-from w ↦
        w.if-words-from.true (here.first ∙ omega (arith, w.from.ensures, w.ID.ensures, g.met.B.Geometry.file_id))
  ],
)

pub returns-else-start-end-clause-found : goal.returns-else-start-end-clause-found
returns-else-start-end-clause-found g c = (
  refl,
  λ here.
      let fits = section_within g.B.Geometry.shape c.args.words.now here c.args.number c.requires in
      elim c.else-start-end.branch [
        | else-start-end-via-then-start-end+else-end-words w ↦ absurd (omega (arith, fits.0, fits.1, w.if-end-words.false))
        | else-start-end-via-else-start-end w ↦ absurd (omega (arith, fits.0, fits.1, w.if-start-end.false))
      ],
)
