use Rattle.std.proofs.Common.{◌≡◌, ℕ, ◌+◌, ◌<◌, ◌^◌, ◌&&◌, not, true, ltb, length, filter, sym, ap, subst, ◌∙◌, arith}
use Rattle.std.proofs.lemmas.List.{length-set}
use Rattle.morris_board.specs.Boards.{Shape}
use Rattle.morris_board.specs.Sets.{has, count_of}
use Rattle.morris_board.specs.Positions.{Sides}
use Rattle.morris_moves.specs.Rules.{moves_of}
use Rattle.morris_index.specs.Classes.{representative_of}
use Rattle.morris_index.specs.ClassPairs.{class_half_size, class_index_of}
use Rattle.morris_index.specs.EntryRows.{InRow}
use Rattle.morris_index.specs.Pairs.{Counts, is_of}
use Rattle.morris_index.proofs.ClassPairLaws.{canonical_own}
use Rattle.morris_index.proofs.FacingLaws.{turned_of}
use Rattle.morris_wave.specs.Exits.{exits_of}
use Rattle.morris_pairs.specs.Orders.{Rows}
use Rattle.morris_pairs.specs.PairNets.{is_quiet, capture_codes, level_in, net_at}
use Rattle.morris_pairs.specs.RowGraphs.{IsRowGraph}
use Rattle.morris_pairs.specs.Rows.{may_close}
use Rattle.morris_pairs.proofs.RowLaws.{each_more, exits_more}
use Rattle.morris_pairs.proofs.TurnedLaws.{swapped_quiet, swapped_exits}
use Rattle.morris_pairs.proofs.row_graph.RowGraph.read_swapped_row.Goals as goal

pub swap_sides-position-requires : goal.swap_sides-position-requires
swap_sides-position-requires g c = subst (λ k. is_of k c.position.result ≡ true) c.requires.pair c.position.ensures.counts

pub moves_of-moves-requires-clause-within : goal.moves_of-moves-requires-clause-within
moves_of-moves-requires-clause-within g c =
    rw c.own.ensures.points (subst (λ m. c.swap_sides-position.result.own < 2 ^ m) g.met.B.Geometry.point_count c.own.ensures.lawful.stones.own_within)

pub moves_of-moves-requires-clause-tabled : goal.moves_of-moves-requires-clause-tabled
moves_of-moves-requires-clause-tabled g c = c.self.invariant.moves

pub exits_by_opponent-requires-clause-counts : goal.exits_by_opponent-requires-clause-counts
exits_by_opponent-requires-clause-counts g c =
    subst (λ t. is_of c.self.inside.graph t ≡ true) (sym c.swap_sides-position.ensures.value)
    (turned_of c.self.inside.graph c.position.result (subst (λ k. is_of k c.position.result ≡ true) (c.requires.pair ∙ sym c.self.view_is) c.position.ensures.counts))

pub exits_by_opponent-requires-clause-closing : goal.exits_by_opponent-requires-clause-closing
exits_by_opponent-requires-clause-closing g c = λ v.
    ap (λ x. x && not (has c.swap_sides-position.result.other v))
    (c.moves_of-moves.ensures.tabled.closing v ∙ ap (λ o. ltb v g.B.Geometry.POINTS && may_close g.B.Geometry.shape o v) (c.moves_of-moves.ensures.own ∙ c.own.ensures.points))

pub loop-place-preserved : goal.loop-place-preserved
loop-place-preserved g c =
    let here = subst (λ d. IsRowGraph g.B.Geometry.shape g.B.Geometry.POINTS d c.self.inside.classes c.self.inside.sets c.self.inside.moves) c.self.view_is c.self.invariant in
    let b : Shape = g.B.Geometry.shape in
    let n : ℕ = g.B.Geometry.POINTS in
    let few = g.met.B.Geometry.few in
    let points = g.met.B.Geometry.point_count in
    let y = g.met.B.Geometry.has_symmetries in
    let d : Counts = c.args.self.now in
    let row : InRow = c.args.entries.now in
    let s : Sides = c.position.result in
    let of : is_of d s ≡ true = subst (λ k. is_of k s ≡ true) c.requires.pair c.position.ensures.counts in
    let entry : class_index_of b n d s ≡ row.first + c.loop-place.place =
    subst (λ k. class_index_of b n k s ≡ row.first + c.loop-place.place) c.requires.pair c.position.ensures.index in
    let greater : count_of s.own ≡ d.greater = ap count_of c.position.ensures.own ∙ c.requires.greater in
    let least : representative_of b s.own ≡ s.own =
    sym (ap (λ (t : Sides). t.own) (c.position.ensures.canonical_form s c.position.ensures.lawful c.position.ensures.counts c.position.ensures.index)
    ∙ canonical_own b n few points y s c.position.ensures.lawful) in
    let inv = c.loop-place.invariant in
    let net = net_at b (level_in Rows d) in
    let half : ℕ = class_half_size b n d.greater d.lesser in
    let inside : c.loop-place.place < length c.loop-place.counts = omega (arith, c.min-many.ensures, c.loop-place-test.true, inv.counts_len) in
    let room : c.loop-place.place < length c.loop-place.exits = omega (arith, inside, c.requires.room, inv.counts_len, inv.exits_len) in
    record {
      counts_len = length-set c.loop-place.counts c.loop-place.place c.quiet_moves.result ∙ inv.counts_len;
      exits_len = length-set c.loop-place.exits c.loop-place.place c.exits_by_opponent.result ∙ inv.exits_len;
      cache = c.exits_by_opponent.ensures.cache;
      quiet = each_more (λ k. length (net.quiet (half + (row.first + k)))) c.loop-place.counts c.loop-place.place c.quiet_moves.result inside
          (c.quiet_moves.ensures ∙ ap (λ (t : Sides). length (filter is_quiet (moves_of b t))) c.swap_sides-position.ensures.value
          ∙ swapped_quiet b g.met.B.Geometry.is_lawful y n few points d here.lawful here.two s c.position.ensures.lawful of greater least (row.first + c.loop-place.place) entry)
          inv.quiet;
      outside = exits_more (λ k. exits_of (net.exits (half + (row.first + k)))) c.loop-place.exits c.loop-place.place c.exits_by_opponent.result room
          (c.exits_by_opponent.ensures.value ∙ ap (λ (t : Sides). exits_of (capture_codes b t)) c.swap_sides-position.ensures.value
          ∙ swapped_exits b g.met.B.Geometry.is_lawful y n few points d here.lawful here.two s c.position.ensures.lawful of greater least (row.first + c.loop-place.place) entry)
          inv.outside;
    }
