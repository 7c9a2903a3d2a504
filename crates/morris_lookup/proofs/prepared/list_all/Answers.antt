use Rattle.std.proofs.Common.{ℕ, ◌≡◌, ◌≤◌, ◌+◌, suc, length, sym, ap, ◌∙◌, arith, get_or, get_or-set_other, get_or-set_same}
use Rattle.morris_lookup.specs.Representatives.{representatives_of}
use Rattle.morris_lookup.specs.Prepared.{section_size, start_of, first_word}
use Rattle.morris_lookup.proofs.PreparedLaws.{start-zero, start-suc, size-listed, prepared-none, listed-more}
use Rattle.morris_lookup.proofs.prepared.list_all.Goals as goal

pub loop-k-init : goal.loop-k-init
loop-k-init g c =
    let word : 1297564416 + c.from.result ≡ first_word g.B.Geometry.shape = omega (arith, c.from.ensures, c.ID.ensures, g.met.B.Geometry.file_id) in
    record {
      ends = sym (start-zero g.B.Geometry.shape);
      few = omega arith;
      prepared = λ long.
          prepared-none g.B.Geometry.shape c.put-2.new.words long
          (ap (λ words. get_or words 0 0) c.put-2.ensures
          ∙ get_or-set_other c.put.new.words 1 0 13 0 (omega arith)
          ∙ ap (λ words. get_or words 0 0) c.put.ensures
          ∙ get_or-set_same c.args.words.now 0 (1297564416 + c.from.result) 0 (omega (arith, long, c.put.auto.words, c.put-2.auto.words))
          ∙ word)
          (ap (λ words. get_or words 1 0) c.put-2.ensures ∙ get_or-set_same c.put.new.words 1 13 0 (omega (arith, long, c.put-2.auto.words)));
    }

pub loop-k-preserved : goal.loop-k-preserved
loop-k-preserved g c =
    let board = g.B.Geometry.shape in
    let low : board.points ≤ 24 = omega (arith, g.met.B.Geometry.few, g.met.B.Geometry.point_count) in
    let k : ℕ = c.loop-k.k in
    let next : ℕ = c.list-end.result in
    let size : section_size board k ≡ length (representatives_of board (3 + k)) = size-listed board k (omega arith) in
    let is : next ≡ c.loop-k.end + section_size board k = omega (arith, c.list-end.ensures.listed.ends, size) in
    let one : suc k ≡ k + 1 = omega arith in
    record {
      ends = omega (arith, is, c.loop-k.invariant.ends, start-suc board k, ap (start_of board) one);
      few = omega (arith, c.list-end.ensures.few, c.loop-k.invariant.few);
      prepared = λ fits.
          let within : next ≤ length c.loop-k.words = omega (arith, fits, c.list-end.auto.words, c.put-in-loop-k.auto.words) in
          rw (c.put-in-loop-k.ensures, c.from-in-loop-k.ensures)
          (listed-more board low k c.loop-k.end next c.loop-k.words c.list-end.new.words (omega arith) (c.loop-k.invariant.prepared (omega (arith, within, is)))
          (omega (arith, c.list-end.auto.words)) is within c.list-end.ensures.listed.before (omega arith)
          (λ i h. c.list-end.ensures.listed.listed i h (omega (arith, h, within, is, size, c.list-end.auto.words))));
    }
