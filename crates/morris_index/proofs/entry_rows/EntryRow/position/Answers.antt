use Rattle.std.proofs.Common.{◌≡◌, ◌<◌, ◌∙◌, length, slice_index, Ok, refl, arith, rules}
use Rattle.morris_board.specs.Positions.{sides, check_sides}
use Rattle.morris_index.specs.EntryRows.{in_row, StandsIn}
use Rattle.morris_index.proofs.EntryRowLaws.{own_fits, numbers_fit, row_spread}
use Rattle.morris_index.proofs.entry_rows.EntryRow.position.Given as given
use Rattle.morris_index.proofs.entry_rows.EntryRow.position.Goals as goal
use Rattle.morris_index.proofs.entry_rows.EntryRow.position.Goals.{After-new-arg-1}

-- these stones and those that were spread are the position of the entry
stands : (g : given.Over) (c : After-new-arg-1 g) → StandsIn g.B.Geometry.shape g.B.Geometry.POINTS (in_row c.self.inside.pair c.self.inside.first c.self.inside.own (length c.self.inside.numbers.now)) c.args.place
    (sides c.self.inside.own c.spread-other.result)
stands g c =
    let low : c.args.place < length c.self.inside.numbers.now = rw (← c.self.view_is) at c.requires in
    let read : c.from_mask.result ≡ slice_index c.self.inside.numbers.now c.args.place = search rules in
    row_spread g.B.Geometry.shape g.B.Geometry.POINTS (omega (arith, g.met.B.Geometry.few)) g.met.B.Geometry.point_count g.met.B.Geometry.has_symmetries
    (in_row c.self.inside.pair c.self.inside.first c.self.inside.own (length c.self.inside.numbers.now)) c.self.inside.numbers.now c.self.invariant c.args.place low
    c.spread-other.result c.spread-other.ensures.within c.spread-other.ensures.apart (c.spread-other.ensures.squeeze ∙ read)

pub spread-other-requires : goal.spread-other-requires
spread-other-requires g c =
    let low : c.args.place < length c.self.inside.numbers.now = rw (← c.self.view_is) at c.requires in
    let read : c.from_mask.result ≡ slice_index c.self.inside.numbers.now c.args.place = search rules in
    record {
      board = own_fits g.B.Geometry.shape g.B.Geometry.POINTS (omega (arith, g.met.B.Geometry.few)) g.met.B.Geometry.point_count g.met.B.Geometry.has_symmetries
          (in_row c.self.inside.pair c.self.inside.first c.self.inside.own (length c.self.inside.numbers.now)) c.self.inside.numbers.now c.self.invariant;
      fits = rw read (numbers_fit g.B.Geometry.shape g.B.Geometry.POINTS (omega (arith, g.met.B.Geometry.few)) g.met.B.Geometry.point_count g.met.B.Geometry.has_symmetries
          (in_row c.self.inside.pair c.self.inside.first c.self.inside.own (length c.self.inside.numbers.now)) c.self.inside.numbers.now c.self.invariant c.args.place low);
    }

pub new-requires : goal.new-requires
new-requires g c = (stands g (goal.at.new-requires g c).After-new-arg-1).inside.lawful.stones

pub unreachable-requires : goal.unreachable-requires
unreachable-requires g c =
    let sized = (stands g (goal.at.unreachable-requires g c).After-new-arg-1).inside.lawful.sized in
    let is : check_sides (sides c.self.inside.own c.spread-other.result) ≡ Ok (sides c.self.inside.own c.spread-other.result) = rw sized refl in
    let same : c.new.result ≡ Ok (sides c.self.inside.own c.spread-other.result) = c.new.ensures ∙ is in
    cc

pub returns-clause-index : goal.returns-clause-index
returns-clause-index g c =
    let same : c.in-Ok.position ≡ sides c.self.inside.own c.spread-other.result = search rules in
    rw (← c.self.view_is, same) (stands g (goal.at.returns-clause-index g c).After-new-arg-1).inside.entry

pub returns-clause-counts : goal.returns-clause-counts
returns-clause-counts g c =
    let same : c.in-Ok.position ≡ sides c.self.inside.own c.spread-other.result = search rules in
    rw (← c.self.view_is, same) (stands g (goal.at.returns-clause-counts g c).After-new-arg-1).inside.counts

pub returns-clause-canonical_form : goal.returns-clause-canonical_form
returns-clause-canonical_form g c =
    let same : c.in-Ok.position ≡ sides c.self.inside.own c.spread-other.result = search rules in
    rw (← c.self.view_is, same) (stands g (goal.at.returns-clause-canonical_form g c).After-new-arg-1).canonical_form
