-- The sets of the classes so far have their words.
use Rattle.morris_lookup.proofs.LeadLaws.{AreSetsCanonical}
use Rattle.morris_lookup.proofs.class_words.write_class_words.Given as goal

abbrev pub invariant-loop-class : goal.invariant-loop-class
invariant-loop-class g l = AreSetsCanonical g.B.Geometry.shape l.count l.start l.class l.words l.fn.words
