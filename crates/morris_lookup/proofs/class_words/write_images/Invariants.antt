-- The images that the last k symmetries bring to the representative have their words.
use Rattle.morris_lookup.proofs.LeadLaws.{AreCanonicalBy}
use Rattle.morris_lookup.proofs.class_words.write_images.Given as goal

abbrev pub invariant-loop-k : goal.invariant-loop-k
invariant-loop-k g l = AreCanonicalBy g.B.Geometry.shape l.count l.start l.class l.representative l.k l.words l.fn.words
