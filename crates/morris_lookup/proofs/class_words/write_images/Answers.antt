use Rattle.std.proofs.Common.{◌≡◌, ℕ, ◌+◌, ◌-◌, ◌<◌, ◌≤◌, ◌^◌, length, sym, ap, ◌∙◌, subst, arith}
use Rattle.morris_board.specs.Boards.{Shape}
use Rattle.morris_board.specs.Sets.{members, count_of}
use Rattle.morris_board.specs.Symmetries.{image_of, inverse_of, HasSymmetries}
use Rattle.morris_index.specs.Binomials.{choose}
use Rattle.morris_index.specs.Numbering.{rank_of}
use Rattle.morris_index.proofs.ClassLaws.{image_within, image_count}
use Rattle.morris_index.proofs.IndexLaws.{within_24}
use Rattle.morris_lookup.proofs.LeadLaws.{AreCanonicalBy, canonical_more, canonical_all, rank_inside, rank_is}
use Rattle.morris_lookup.proofs.class_words.write_images.Given.{Over}
use Rattle.morris_lookup.proofs.class_words.write_images.Goals as goal

few : (g : Over) → g.B.Geometry.shape.points ≤ 24
few g = omega (arith, g.met.B.Geometry.few, g.met.B.Geometry.point_count)

within : (g : Over) (set : ℕ) → set < 2 ^ g.B.Geometry.POINTS → set < 2 ^ g.B.Geometry.shape.points
within g set small = subst (λ n. set < 2 ^ n) (sym g.met.B.Geometry.point_count) small

-- the image whose word is written
module _ (board : Shape) (few : board.points ≤ 24) (y : HasSymmetries board) (count s r x : ℕ) (low : s < board.symmetries) (small : r < 2 ^ board.points)
    (counted : count_of r ≡ count) (is : x ≡ image_of (board.image (inverse_of s)) r) where
  image_in : x < 2 ^ board.points
  image_in = rw is (image_within board few y r small (inverse_of s) (y.inverse_within s low))

  image_counted : count_of x ≡ count
  image_counted = rw is (image_count board few y r small (inverse_of s) (y.inverse_within s low) ∙ counted)

  image_ranked : rank_of (members x) < choose board.points count
  image_ranked = rank_inside board.points count x few image_in image_counted

pub rank-requires-clause-board : goal.rank-requires-clause-board
rank-requires-clause-board g c =
    let board = g.B.Geometry.shape in
    let low : c.SYMMETRIES.result - 1 - c.loop-k.k < board.symmetries = omega (arith, g.met.B.Geometry.symmetry_count, c.SYMMETRIES.ensures, c.SYMMETRIES-k-end.ensures, c.loop-k-test.true) in
    within_24 _ board.points (image_in board (few g) g.met.B.Geometry.has_symmetries c.args.count _ c.args.representative _ low (within g c.args.representative c.requires.within) c.requires.counted
    (c.image_of-set.ensures ∙ ap (λ i. image_of (board.image i) c.args.representative) c.inverse.ensures)) (few g)

pub rank-requires-clause-few : goal.rank-requires-clause-few
rank-requires-clause-few g c =
    let board = g.B.Geometry.shape in
    let low : c.SYMMETRIES.result - 1 - c.loop-k.k < board.symmetries = omega (arith, g.met.B.Geometry.symmetry_count, c.SYMMETRIES.ensures, c.SYMMETRIES-k-end.ensures, c.loop-k-test.true) in
    let counted = image_counted board (few g) g.met.B.Geometry.has_symmetries c.args.count _ c.args.representative _ low (within g c.args.representative c.requires.within) c.requires.counted
    (c.image_of-set.ensures ∙ ap (λ i. image_of (board.image i) c.args.representative) c.inverse.ensures) in
    omega (arith, counted, c.requires.few)

pub bounds-words-place : goal.bounds-words-place
bounds-words-place g c =
    let board = g.B.Geometry.shape in
    let low : c.SYMMETRIES.result - 1 - c.loop-k.k < board.symmetries = omega (arith, g.met.B.Geometry.symmetry_count, c.SYMMETRIES.ensures, c.SYMMETRIES-k-end.ensures, c.loop-k-test.true) in
    let ranked = image_ranked board (few g) g.met.B.Geometry.has_symmetries c.args.count _ c.args.representative _ low (within g c.args.representative c.requires.within) c.requires.counted
    (c.image_of-set.ensures ∙ ap (λ i. image_of (board.image i) c.args.representative) c.inverse.ensures) in
    omega (arith, ranked, c.rank.ensures.value, rank_is c.image_of-set.result, ap (λ n. choose n c.args.count) g.met.B.Geometry.point_count, c.requires.room, c.loop-k.auto.words)

pub loop-k-preserved : goal.loop-k-preserved
loop-k-preserved g c =
    let board = g.B.Geometry.shape in
    let s : ℕ = c.SYMMETRIES.result - 1 - c.loop-k.k in
    let last : s + (c.loop-k.k + 1) ≡ board.symmetries = omega (arith, g.met.B.Geometry.symmetry_count, c.SYMMETRIES.ensures, c.SYMMETRIES-k-end.ensures, c.loop-k-test.true) in
    let room : c.args.start + choose board.points c.args.count ≤ length c.loop-k.words =
    omega (arith, ap (λ n. choose n c.args.count) g.met.B.Geometry.point_count, c.requires.room, c.loop-k.auto.words) in
    let at : c.rank.result ≡ rank_of (members (image_of (board.image (inverse_of s)) c.args.representative)) =
    c.rank.ensures.value ∙ sym (rank_is c.image_of-set.result) ∙ ap (λ x. rank_of (members x)) (c.image_of-set.ensures ∙ ap (λ i. image_of (board.image i) c.args.representative) c.inverse.ensures) in
    rw at
    (canonical_more board (few g) g.met.B.Geometry.has_symmetries c.args.count c.args.start c.args.class c.args.representative (within g c.args.representative c.requires.within) c.requires.counted c.requires.least
    c.loop-k.k s last c.loop-k.words c.args.words.now c.loop-k.invariant room _ (omega (arith, c.from.ensures)))

pub returns-clause-canonical_form : goal.returns-clause-canonical_form
returns-clause-canonical_form g c =
    let board = g.B.Geometry.shape in
    let end : c.loop-k.k ≡ board.symmetries =
    omega (arith, g.met.B.Geometry.symmetry_count, c.SYMMETRIES-k-end.ensures, c.loop-k-test.false, c.loop-k.auto.k-end) in
    canonical_all board (few g) g.met.B.Geometry.has_symmetries c.args.count c.args.start c.args.class c.args.representative (within g c.args.representative c.requires.within) c.requires.counted c.requires.least
    c.loop-k.words c.args.words.now
    (subst (λ k. AreCanonicalBy board c.args.count c.args.start c.args.class c.args.representative k c.loop-k.words c.args.words.now) end c.loop-k.invariant)
