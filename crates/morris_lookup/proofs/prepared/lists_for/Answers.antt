-- The sections of these sets are the one with their representatives and the one with their class
-- words.
use Rattle.std.proofs.Common.{◌≡◌, ◌+◌, ◌≤◌, ◌∙◌, arith}
use Rattle.morris_lookup.proofs.PreparedLaws.{section-listed, section-class_words}
use Rattle.morris_lookup.proofs.prepared.lists_for.Goals as goal

pub returns-then-count-clause-list : goal.returns-then-count-clause-list
returns-then-count-clause-list g c = λ here.
    let k : 3 + c.from-number.result ≡ c.args.count = omega (arith, c.from-number.ensures, c.requires.least) in
    rw (← k) (c.in_ok-list.ensures.found ∙ section-listed g.B.Geometry.shape c.args.words.now here c.from-number.result (omega (arith, k, c.requires.most)) (omega (arith, k, c.requires.most)))

pub returns-then-count-clause-class_words : goal.returns-then-count-clause-class_words
returns-then-count-clause-class_words g c = λ here some. absurd (omega (arith, some))

pub returns-clause-list : goal.returns-clause-list
returns-clause-list g c = λ here.
    let k : 3 + c.from-number.result ≡ c.args.count = omega (arith, c.from-number.ensures, c.requires.least) in
    rw (← k) (c.in_ok-list.ensures.found ∙ section-listed g.B.Geometry.shape c.args.words.now here c.from-number.result (omega (arith, k, c.requires.most)) (omega (arith, k, c.requires.most)))

pub returns-clause-class_words : goal.returns-clause-class_words
returns-clause-class_words g c = λ here.
    let few : g.B.Geometry.shape.points ≤ 24 = omega (arith, g.met.B.Geometry.few, g.met.B.Geometry.point_count) in
    let k : 3 + c.from-number.result ≡ c.args.count = omega (arith, c.from-number.ensures, c.requires.least) in
    let at : c.from-number.result + c.from.result ≡ 7 + c.from-number.result = omega (arith, c.from.ensures) in
    rw (← k, c.in_ok-class_words.ensures.found)
    (section-class_words g.B.Geometry.shape c.args.words.now here (c.from-number.result + c.from.result) (omega (arith, at, k, c.if-count.false)) few c.from-number.result at)
