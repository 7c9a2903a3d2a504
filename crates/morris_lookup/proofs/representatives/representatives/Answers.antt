use Rattle.std.proofs.Common.{◌≡◌, ◌≤◌, ◌+◌, ℕ, List, length, ◌∙◌, sym, ap, arith}
use Rattle.std.proofs.lemmas.List.{length-take-le}
use Rattle.morris_index.specs.Binomials.{choose}
use Rattle.morris_lookup.specs.Representatives.{representatives_of}
use Rattle.morris_lookup.proofs.EntryLaws.{representatives-le}
use Rattle.morris_lookup.proofs.ListLaws.{listed_first}
use Rattle.morris_lookup.proofs.representatives.representatives.Given.{Over}
use Rattle.morris_lookup.proofs.representatives.representatives.Goals as goal

-- there is room for all of them
within : (g : Over) (count end : ℕ) (words : List ℕ) → end ≡ 0 + length (representatives_of g.B.Geometry.shape count) → length words ≡ choose g.B.Geometry.POINTS count
    → end ≤ length words
within g count end words ends room =
    omega (arith, ends, room, representatives-le g.B.Geometry.shape g.B.Geometry.POINTS count (omega (arith, g.met.B.Geometry.few)) g.met.B.Geometry.point_count)

pub slice_bounds-from_slice-end : goal.slice_bounds-from_slice-end
slice_bounds-from_slice-end g c =
    sym (length-take-le c.list-end.result c.list-end.new.words (within g c.args.count c.list-end.result c.list-end.new.words c.list-end.ensures.listed.ends
    (omega (arith, c.list-end.auto.words, c.as_mut_slice-words.ensures.len, c.in_ok-room.ensures.len, c.binomial.ensures.value, ap (λ n. choose n c.args.count) c.POINTS.ensures))))

pub returns : goal.returns
returns g c =
    c.in_ok-from_slice.ensures.items
    ∙ listed_first (representatives_of g.B.Geometry.shape c.args.count) c.list-end.result c.list-end.new.words _ c.list-end.ensures.listed
    (within g c.args.count c.list-end.result c.list-end.new.words c.list-end.ensures.listed.ends
    (omega (arith, c.list-end.auto.words, c.as_mut_slice-words.ensures.len, c.in_ok-room.ensures.len, c.binomial.ensures.value, ap (λ n. choose n c.args.count) c.POINTS.ensures)))
