use Rattle.std.proofs.Common.{◌≡◌, ℕ, ◌+◌, ◌<◌, ◌≤◌, ◌^◌, List, length, filter, slice_set, true, sym, ap, subst, ◌∙◌, arith}
use Rattle.std.proofs.lemmas.Bool.{eq-eqb}
use Rattle.std.proofs.lemmas.List.{length-set, get_or-set_other}
use Rattle.morris_board.specs.Boards.{Shape, is_board}
use Rattle.morris_board.specs.Positions.{Sides}
use Rattle.morris_board.specs.Symmetries.{HasSymmetries}
use Rattle.morris_moves.specs.Rules.{moves_of}
use Rattle.morris_index.specs.Classes.{representative_of}
use Rattle.morris_index.specs.ClassPairs.{canonical_form}
use Rattle.morris_index.specs.EntryRows.{InRow, IsInRow}
use Rattle.morris_index.specs.Pairs.{Counts, IsPair, is_of}
use Rattle.morris_index.proofs.ClassPairLaws.{canonical_itself}
use Rattle.morris_wave.specs.declared.graph.Exits.{Exits}
use Rattle.morris_wave.specs.Exits.{exits_of, no_exits}
use Rattle.morris_wave.specs.Solving.{exits_at}
use Rattle.morris_pairs.specs.declared.layout.Layout.TheVariants.{Classes}
use Rattle.morris_pairs.specs.declared.rows.Row.{Row}
use Rattle.morris_pairs.specs.Entries.{entry_index, has_own_entry}
use Rattle.morris_pairs.specs.NumberedRows.{AreNumbers}
use Rattle.morris_pairs.specs.Orders.{order_of}
use Rattle.morris_pairs.specs.PairNets.{is_quiet, capture_codes, level_of, net_at}
use Rattle.morris_pairs.proofs.CaptureLaws.{no_codes}
use Rattle.morris_pairs.proofs.NumberedLaws.{are_numbers}
use Rattle.morris_pairs.proofs.RowLaws.{each_more, exits_more}
use Rattle.morris_pairs.proofs.GraphLaws.{exits_same, quiet_count_at}
use Rattle.morris_pairs.proofs.row_reading.read_row.Goals as goal
use Rattle.morris_pairs.proofs.row_reading.read_row.Goals.{then-may_capture, else-may_capture}

-- the node of a place of a row is that of its position
module _ (b : Shape) (board : is_board b ≡ true) (y : HasSymmetries b) (n : ℕ) (points : b.points ≡ n) (c : Counts) (pair : IsPair n c) (row : InRow)
    (of : row.pair ≡ c) (least : representative_of b row.own ≡ row.own) (place : ℕ) (s : Sides) (at : IsInRow b n row place s) where
  pair_here : IsPair b.points c
  pair_here = subst (λ m. IsPair m c) (sym points) pair

  counts_here : is_of c s ≡ true
  counts_here = subst (λ d. is_of d s ≡ true) of at.counts

  own_entry : has_own_entry b Classes s ≡ true
  own_entry = eq-eqb _ _ (rw at.own least)

  entry_here : entry_index b n Classes c s ≡ row.first + place
  entry_here = subst (λ d. entry_index b n Classes d s ≡ row.first + place) of at.entry

  quiet_there : length (filter is_quiet (moves_of b s)) ≡ length ((net_at b (level_of Classes c)).quiet (row.first + place))
  quiet_there = quiet_count_at b board y n points (order_of Classes) c pair_here s at.lawful counts_here own_entry (row.first + place) entry_here

  exits_there : exits_of (capture_codes b s) ≡ exits_of ((net_at b (level_of Classes c)).exits (row.first + place))
  exits_there = exits_same b board y n points (order_of Classes) c pair_here s at.lawful counts_here own_entry (row.first + place) entry_here

  canonical_there : n ≤ 24 → canonical_form b s ≡ s
  canonical_there low =
      canonical_itself b n low points y s.own s.other (subst (λ m. s.own < 2 ^ m) points at.lawful.stones.own_within)
      (subst (λ m. s.other < 2 ^ m) points at.lawful.stones.other_within) (rw at.own least)

-- entries that are right up to a place, where that is written twice
written_twice : (f : ℕ → Exits) (cache : List Exits) (k : ℕ) (x y : Exits) → k < length cache → y ≡ f k → ((v : ℕ) → v < k → exits_at cache v ≡ f v)
    → (v : ℕ) → v < k + 1 → exits_at (slice_set (slice_set cache k x) k y) v ≡ f v
written_twice f cache k x y inside is before =
    exits_more f (slice_set cache k x) k y (omega (arith, length-set cache k x)) is
    (λ v h. get_or-set_other cache k v x no_exits (λ e. omega arith) ∙ before v h)

pub loop-place-preserved : goal.loop-place-preserved
loop-place-preserved g c =
    let inv = c.loop-place.invariant in
    let b : Shape = g.B.Geometry.shape in
    let net = net_at b (level_of Classes c.args.graph.now) in
    let s : Sides = c.numbers-numbers.ensures.stands.0 in
    let at : IsInRow b g.B.Geometry.POINTS c.args.entries.now c.loop-place.place s = c.numbers-numbers.ensures.stands.1 in
    let own : c.of-row.result.row.own ≡ c.args.entries.now.own = ap (λ (r : Row). r.own) c.of-row.ensures.row ∙ (c.of.ensures.own ∙ c.own.ensures.value) in
    let numbers : AreNumbers b g.B.Geometry.POINTS c.of-row.result.row.own c.numbers-numbers.result s =
    are_numbers b g.B.Geometry.POINTS c.args.entries.now c.loop-place.place c.of-row.result.row.own c.numbers-numbers.result s own at (c.numbers-numbers.ensures.value s at) in
    let quiet_here : c.quiet_moves.result ≡ length (net.quiet (c.args.entries.now.first + c.loop-place.place)) =
    c.quiet_moves.ensures s numbers
    ∙ quiet_there b g.met.B.Geometry.is_lawful g.met.B.Geometry.has_symmetries g.B.Geometry.POINTS g.met.B.Geometry.point_count
    c.args.graph.now c.requires.lawful c.args.entries.now c.requires.pair c.own.ensures.least c.loop-place.place s at in
    let entry : exits_of (capture_codes b s) ≡ exits_of (net.exits (c.args.entries.now.first + c.loop-place.place)) =
    exits_there b g.met.B.Geometry.is_lawful g.met.B.Geometry.has_symmetries g.B.Geometry.POINTS g.met.B.Geometry.point_count
    c.args.graph.now c.requires.lawful c.args.entries.now c.requires.pair c.own.ensures.least c.loop-place.place s at in
    let inside : c.loop-place.place < length c.loop-place.counts = omega (arith, c.min-many.ensures, c.loop-place-test.true, inv.counts_len) in
    let room : c.loop-place.place < length c.loop-place.exits = omega (arith, inside, c.requires.room, inv.counts_len, inv.exits_len) in
    record {
      counts_len = length-set c.loop-place.counts c.loop-place.place c.quiet_moves.result ∙ inv.counts_len;
      exits_len = c.if-may_capture.auto.exits ∙ (length-set c.loop-place.exits c.loop-place.place no_exits ∙ inv.exits_len);
      quiet = each_more (λ k. length (net.quiet (c.args.entries.now.first + k))) c.loop-place.counts c.loop-place.place c.quiet_moves.result inside quiet_here inv.quiet;
      cache = elim c.if-may_capture.branch [
        | then-may_capture w ↦ rw w.cache-is w.exits_with_cache.ensures.cache
        | else-may_capture w ↦ rw w.cache-is inv.cache
      ];
      outside = elim c.if-may_capture.branch [
        | then-may_capture w ↦
            let same : w.position.result ≡ s =
            w.position.ensures.canonical_form s at.lawful at.counts at.entry
            ∙ canonical_there b g.met.B.Geometry.is_lawful g.met.B.Geometry.has_symmetries g.B.Geometry.POINTS g.met.B.Geometry.point_count
            c.args.graph.now c.requires.lawful c.args.entries.now c.requires.pair c.own.ensures.least c.loop-place.place s at (omega (arith, g.met.B.Geometry.few)) in
            rw w.exits-is
            (written_twice (λ k. exits_of (net.exits (c.args.entries.now.first + k))) c.loop-place.exits c.loop-place.place no_exits w.exits_with_cache.result room
            (w.exits_with_cache.ensures.value ∙ (ap (λ (t : Sides). exits_of (capture_codes b t)) same ∙ entry)) inv.outside)
        | else-may_capture w ↦
            rw w.exits-is
            (exits_more (λ k. exits_of (net.exits (c.args.entries.now.first + k))) c.loop-place.exits c.loop-place.place no_exits room
            (no_codes b s (c.may_capture.ensures w.if-may_capture.false s numbers) ∙ entry) inv.outside)
      ];
    }

pub quiet_moves-requires-clause-stands : goal.quiet_moves-requires-clause-stands
quiet_moves-requires-clause-stands g c =
    let s : Sides = c.numbers-numbers.ensures.stands.0 in
    let at : IsInRow g.B.Geometry.shape g.B.Geometry.POINTS c.args.entries.now c.loop-place.place s = c.numbers-numbers.ensures.stands.1 in
    let own : c.of-row.result.row.own ≡ c.args.entries.now.own = ap (λ (r : Row). r.own) c.of-row.ensures.row ∙ (c.of.ensures.own ∙ c.own.ensures.value) in (
      s,
      are_numbers g.B.Geometry.shape g.B.Geometry.POINTS c.args.entries.now c.loop-place.place c.of-row.result.row.own c.numbers-numbers.result s own at (c.numbers-numbers.ensures.value s at),
    )
