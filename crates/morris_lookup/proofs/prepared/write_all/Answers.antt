use Rattle.std.proofs.Common.{◌≡◌, ℕ, suc, ◌+◌, ◌-◌, ◌<◌, ◌≤◌, List, length, get_or, set, refl, ap, ◌∙◌, subst, arith}
use Rattle.morris_board.specs.Boards.{Shape}
use Rattle.morris_index.specs.Binomials.{choose}
use Rattle.morris_lookup.specs.Representatives.{representatives_of}
use Rattle.morris_lookup.specs.Prepared.{start_of, section_size, IsPreparedTo}
use Rattle.morris_lookup.proofs.PreparedLaws.{start-suc, size-listed, size-canonical_form, start-least, start-listed, start-canonical_form, canonical_form-more}
use Rattle.morris_lookup.proofs.prepared.write_all.Goals as goal

-- the representatives, where the preface says they are
module _ (board : Shape) (k end place : ℕ) (words : List ℕ) (low : k < 4) (at : place ≡ k) (here : IsPreparedTo board (7 + k) end words) where
  first_is : get_or words (place + 1) 0 ≡ start_of board k
  first_is = let e : place + 1 ≡ 1 + k = omega (arith, at) in ap (λ i. get_or words i 0) e ∙ here.starts k (omega arith)

  last_is : get_or words (place + 1 + 1) 0 ≡ start_of board k + length (representatives_of board (3 + k))
  last_is =
      let e : place + 1 + 1 ≡ 1 + suc k = omega (arith, at) in
      ap (λ i. get_or words i 0) e ∙ here.starts (suc k) (omega arith) ∙ start-suc board k ∙ ap (λ n. start_of board k + n) (size-listed board k (omega arith))

  long : 13 ≤ length words
  long = omega (arith, start-least board (7 + k), here.ends, here.within)

  size_is : get_or words (place + 1 + 1) 0 - get_or words (place + 1) 0 ≡ length (representatives_of board (3 + k))
  size_is = omega (arith, first_is, last_is)

  in_order : get_or words (place + 1) 0 ≤ get_or words (place + 1 + 1) 0
  in_order = omega (arith, first_is, last_is)

  ends_before : get_or words (place + 1) 0 + (get_or words (place + 1 + 1) 0 - get_or words (place + 1) 0) ≤ end
  ends_before = omega (arith, first_is, last_is, start-listed board k (7 + k) (omega arith) (omega arith), here.ends)

  listed_there : (i : ℕ) → i < get_or words (place + 1 + 1) 0 - get_or words (place + 1) 0
      → get_or words (get_or words (place + 1) 0 + i) 0 ≡ get_or (representatives_of board (3 + k)) i 0
  listed_there i h = ap (λ s. get_or words (s + i) 0) first_is ∙ here.listed k i (omega arith) (omega arith) (omega (arith, h, size_is))

pub bounds-words-place : goal.bounds-words-place
bounds-words-place g c =
    omega (arith, c.from-place.ensures, c.loop-k-test.true, long g.B.Geometry.shape c.loop-k.k c.loop-k.end c.from-place.result c.loop-k.words c.loop-k-test.true c.from-place.ensures c.loop-k.invariant.prepared)

pub bounds-words-place-in-loop-k : goal.bounds-words-place-in-loop-k
bounds-words-place-in-loop-k g c =
    omega (arith, c.from-place.ensures, c.loop-k-test.true, long g.B.Geometry.shape c.loop-k.k c.loop-k.end c.from-place.result c.loop-k.words c.loop-k-test.true c.from-place.ensures c.loop-k.invariant.prepared)

pub returns-then-words-end-clause-room : goal.returns-then-words-end-clause-room
returns-then-words-end-clause-room g c =
    omega (
      arith,
      c.if-words-end.true,
      c.set_count-sets.ensures.value,
      ap (λ n. choose n (3 + c.loop-k.k)) g.met.B.Geometry.point_count,
      start-canonical_form g.B.Geometry.shape c.loop-k.k 11 (omega (arith, c.loop-k-test.true)),
      c.loop-k.invariant.prepared.ends,
      c.loop-k.invariant.prepared.within,
      c.loop-k.auto.words,
    )

pub overflow_sub-last : goal.overflow_sub-last
overflow_sub-last g c = in_order g.B.Geometry.shape c.loop-k.k c.loop-k.end c.from-place.result c.loop-k.words c.loop-k-test.true c.from-place.ensures c.loop-k.invariant.prepared

pub write_class_words-requires-clause-room : goal.write_class_words-requires-clause-room
write_class_words-requires-clause-room g c =
    omega (arith, c.if-words-end.false, c.set_count-sets.ensures.value, c.loop-k.invariant.prepared.within)

pub write_class_words-requires-clause-before : goal.write_class_words-requires-clause-before
write_class_words-requires-clause-before g c = ends_before g.B.Geometry.shape c.loop-k.k c.loop-k.end c.from-place.result c.loop-k.words c.loop-k-test.true c.from-place.ensures c.loop-k.invariant.prepared

pub write_class_words-requires-clause-classes : goal.write_class_words-requires-clause-classes
write_class_words-requires-clause-classes g c = size_is g.B.Geometry.shape c.loop-k.k c.loop-k.end c.from-place.result c.loop-k.words c.loop-k-test.true c.from-place.ensures c.loop-k.invariant.prepared

pub write_class_words-requires-clause-listed : goal.write_class_words-requires-clause-listed
write_class_words-requires-clause-listed g c = listed_there g.B.Geometry.shape c.loop-k.k c.loop-k.end c.from-place.result c.loop-k.words c.loop-k-test.true c.from-place.ensures c.loop-k.invariant.prepared

pub bounds-words-place-in-loop-k-2 : goal.bounds-words-place-in-loop-k-2
bounds-words-place-in-loop-k-2 g c =
    omega (arith, c.from-place.ensures, c.loop-k-test.true, c.write_class_words.auto.words, long g.B.Geometry.shape c.loop-k.k c.loop-k.end c.from-place.result c.loop-k.words c.loop-k-test.true c.from-place.ensures c.loop-k.invariant.prepared)

pub loop-k-preserved : goal.loop-k-preserved
loop-k-preserved g c =
    let board = g.B.Geometry.shape in
    let few : board.points ≤ 24 = omega (arith, g.met.B.Geometry.few, g.met.B.Geometry.point_count) in
    let k : ℕ = c.loop-k.k in
    let next : ℕ = c.loop-k.end + c.set_count-sets.result in
    let size : next ≡ c.loop-k.end + section_size board (7 + k) =
    omega (arith, c.set_count-sets.ensures.value, ap (λ n. choose n (3 + k)) g.met.B.Geometry.point_count, size-canonical_form board k) in
    let within : next ≤ length c.loop-k.words = omega (arith, c.if-words-end.false, c.loop-k.invariant.prepared.within) in
    let place : 7 + k + 2 ≡ c.from-place.result + 1 + 8 = omega (arith, c.from-place.ensures) in
    let more : 7 + k + 1 ≡ 7 + (k + 1) = omega arith in
    let step : IsPreparedTo board (7 + k + 1) next (set c.write_class_words.new.words (7 + k + 2) next) =
    canonical_form-more board few (7 + k) c.loop-k.end next c.loop-k.words c.write_class_words.new.words (omega (arith, c.loop-k-test.true)) c.loop-k.invariant.prepared c.write_class_words.auto.words
    size within c.write_class_words.ensures.before k refl c.write_class_words.ensures.canonical_form in
    record {
      prepared = subst (λ p. IsPreparedTo board (7 + (k + 1)) next (set c.write_class_words.new.words p next)) place
          (subst (λ m. IsPreparedTo board m next (set c.write_class_words.new.words (7 + k + 2) next)) more step);
      few = omega (arith, c.loop-k.invariant.few, c.set_count-sets.ensures.few);
    }
