use Rattle.std.proofs.Common.{◌≡◌, ℕ, ◌+◌, ◌<◌, ◌^◌, ◌++◌, ◌∷◌, [], List, true, refl, sym, ap, subst, ◌∙◌, arith}
use Rattle.morris_board.specs.Boards.{Shape}
use Rattle.morris_board.specs.Sets.{count_of, with_point}
use Rattle.morris_board.specs.Symmetries.{image_of}
use Rattle.morris_moves.specs.Rules.{move_stone}
use Rattle.morris_index.specs.Classes.{representative_of}
use Rattle.morris_index.specs.Pairs.{Counts}
use Rattle.morris_index.specs.Standings.{are_of, IsCanonicalStanding}
use Rattle.morris_pairs.specs.declared.row_unmoves.RowUnmove.{RowUnmove}
use Rattle.morris_pairs.specs.RowUnmoves.{Unmove, unmove_by, gives_unmove_of, IsRowUnmove, AddsUnmoves}
use Rattle.morris_pairs.proofs.RowStepLaws.{are_here, adds_none, adds_then, adds_one, carried_below, carried_all, carried_more, carried_not, end_low, start_low, mover_within, mover_count, carried_within, carried_count, carried_kept}
use Rattle.morris_pairs.proofs.row_unmoves.add_unmoves_from.Given as given
use Rattle.morris_pairs.proofs.row_unmoves.add_unmoves_from.Goals as goal
use Rattle.morris_pairs.proofs.row_unmoves.add_unmoves_from.Goals.{After-with-mover, then-gives_unmove+in_ok-push, else-gives_unmove}

-- where the stones stood before the move
mover : (g : given.Over) (c : After-with-mover g) → c.with-mover.result ≡ move_stone c.args.stones c.args.to c.args.from
unfolding move_stone
mover g c = c.with-mover.ensures ∙ ap (λ (k : ℕ). with_point k c.args.from) c.without.ensures

within : (g : given.Over) (c : After-with-mover g) → c.with-mover.result < 2 ^ g.B.Geometry.POINTS
within g c =
    mover_within g.B.Geometry.shape g.B.Geometry.POINTS g.met.B.Geometry.few g.met.B.Geometry.point_count g.met.B.Geometry.has_symmetries c.args.classes.now c.args.stones c.args.to c.args.from
    c.requires.stones c.requires.count c.requires.end c.requires.start c.requires.vacant c.with-mover.result (mover g c)

pub without-requires : goal.without-requires
without-requires g c = end_low c.args.stones g.B.Geometry.POINTS c.args.to c.args.from g.met.B.Geometry.few c.requires.stones c.requires.end c.requires.start c.requires.vacant

pub with-mover-requires : goal.with-mover-requires
with-mover-requires g c = start_low c.args.stones g.B.Geometry.POINTS c.args.to c.args.from g.met.B.Geometry.few c.requires.stones c.requires.end c.requires.start c.requires.vacant

pub class_of-canonicalizing-requires-clause-within : goal.class_of-canonicalizing-requires-clause-within
class_of-canonicalizing-requires-clause-within g c = within g (goal.at.class_of-canonicalizing-requires-clause-within g c).After-with-mover

pub image_of-least-requires-clause-within : goal.image_of-least-requires-clause-within
image_of-least-requires-clause-within g c = within g (goal.at.image_of-least-requires-clause-within g c).After-with-mover

pub gives_unmove-requires-clause-mover : goal.gives_unmove-requires-clause-mover
gives_unmove-requires-clause-mover g c = within g (goal.at.gives_unmove-requires-clause-mover g c).After-with-mover

pub image_of-requires-clause-within : goal.image_of-requires-clause-within
image_of-requires-clause-within g c = within g (goal.at.image_of-requires-clause-within g c).After-with-mover

pub class_of-canonicalizing-requires-clause-count : goal.class_of-canonicalizing-requires-clause-count
class_of-canonicalizing-requires-clause-count g c =
    mover_count g.B.Geometry.shape g.B.Geometry.POINTS g.met.B.Geometry.few g.met.B.Geometry.point_count g.met.B.Geometry.has_symmetries c.args.classes.now c.args.stones c.args.to c.args.from
    c.requires.stones c.requires.count c.requires.end c.requires.start c.requires.vacant c.with-mover.result (mover g (goal.at.class_of-canonicalizing-requires-clause-count g c).After-with-mover)
    ∙ sym c.requires.sets

pub loop-symmetry-init : goal.loop-symmetry-init
loop-symmetry-init g c = record { adds = adds_none g.B.Geometry.shape g.B.Geometry.POINTS c.args.classes.now c.args.stones c.args.classes.now.lesser c.args.unmoves.now.items }

pub gives_unmove-requires-clause-least : goal.gives_unmove-requires-clause-least
unfolding representative_of
gives_unmove-requires-clause-least g c =
    c.image_of-least.ensures ∙ ap (λ (t : ℕ). image_of (g.B.Geometry.shape.image t) c.with-mover.result) c.class_of-canonicalizing.ensures.symmetry

pub standing-standing-requires-clause-within : goal.standing-standing-requires-clause-within
standing-standing-requires-clause-within g c =
    carried_within g.B.Geometry.shape g.B.Geometry.POINTS g.met.B.Geometry.few g.met.B.Geometry.point_count g.met.B.Geometry.has_symmetries c.args.classes.now c.args.stones c.args.to c.args.from
    c.requires.stones c.requires.count c.requires.end c.requires.start c.requires.vacant c.with-mover.result (mover g (goal.at.standing-standing-requires-clause-within g c).After-with-mover)
    c.loop-symmetry.symmetry (omega (arith, c.loop-symmetry-test.true, c.SYMMETRIES-symmetry-end.ensures, g.met.B.Geometry.symmetry_count)) c.image_of.result c.image_of.ensures

pub standing-standing-requires-clause-counts : goal.standing-standing-requires-clause-counts
standing-standing-requires-clause-counts g c =
    let lesser_is : c.lesser-lesser.result ≡ c.args.classes.now.lesser = c.lesser-lesser.ensures.value ∙ ap (λ (d : Counts). d.lesser) c.pair.ensures.value in
    subst (λ (m : ℕ). are_of c.args.classes.now (count_of c.image_of.result) m ≡ true) (sym lesser_is)
    (are_here c.args.classes.now (count_of c.image_of.result)
    (carried_count g.B.Geometry.shape g.B.Geometry.POINTS g.met.B.Geometry.few g.met.B.Geometry.point_count g.met.B.Geometry.has_symmetries c.args.classes.now c.args.stones c.args.to c.args.from
    c.requires.stones c.requires.count c.requires.end c.requires.start c.requires.vacant c.with-mover.result (mover g (goal.at.standing-standing-requires-clause-counts g c).After-with-mover)
    c.loop-symmetry.symmetry (omega (arith, c.loop-symmetry-test.true, c.SYMMETRIES-symmetry-end.ensures, g.met.B.Geometry.symmetry_count)) c.image_of.result c.image_of.ensures))

pub loop-symmetry-preserved : goal.loop-symmetry-preserved
loop-symmetry-preserved g c =
    let b : Shape = g.B.Geometry.shape in
    let n : ℕ = g.B.Geometry.POINTS in
    let of : Counts = c.args.classes.now in
    let stones : ℕ = c.args.stones in
    let to : ℕ = c.args.to in
    let from : ℕ = c.args.from in
    let k : ℕ = c.loop-symmetry.symmetry in
    let old : List RowUnmove = c.args.unmoves.now.items in
    let so_far : List RowUnmove = c.loop-symmetry.unmoves.items in
    let mover_is = mover g (goal.at.loop-symmetry-preserved g c).After-with-mover in
    let tested : c.gives_unmove.result ≡ gives_unmove_of b stones (move_stone stones to from) k = c.gives_unmove.ensures ∙ ap (λ (m : ℕ). gives_unmove_of b stones m k) mover_is in
    record {
      adds = elim c.if-gives_unmove.branch [
        | then-gives_unmove+in_ok-push w ↦
            let low : k < b.symmetries = omega (arith, c.loop-symmetry-test.true, c.SYMMETRIES-symmetry-end.ensures, g.met.B.Geometry.symmetry_count) in
            let lesser_is : c.lesser-lesser.result ≡ of.lesser = c.lesser-lesser.ensures.value ∙ ap (λ (d : Counts). d.lesser) c.pair.ensures.value in
            let row_unmove : RowUnmove = record { from = from; to = to; symmetry = k; standing = w.standing-standing.result } in
            let cache : IsRowUnmove b n of stones of.lesser row_unmove =
            carried_kept b n g.met.B.Geometry.few g.met.B.Geometry.point_count g.met.B.Geometry.has_symmetries of stones to from
            c.requires.stones c.requires.count c.requires.end c.requires.start c.requires.vacant c.with-mover.result mover_is k low w.image_of.result w.image_of.ensures
            w.standing-standing.result w.standing-standing.ensures.own
            (subst (λ (m : ℕ). IsCanonicalStanding b n of m w.standing-standing.result) lesser_is w.standing-standing.ensures.stands)
            row_unmove refl refl refl refl in
            rw w.unmoves-is
            (subst (λ (xs : List RowUnmove). AddsUnmoves b n of stones of.lesser (carried_below b stones to from (k + 1)) old xs) (sym w.in_ok-push.ensures.items)
            (subst (λ (xs : List Unmove). AddsUnmoves b n of stones of.lesser xs old (so_far ++ row_unmove ∷ []))
            (carried_more b stones to from k (sym tested ∙ w.if-gives_unmove.true))
            (adds_then b n of stones of.lesser (carried_below b stones to from k) (unmove_by to from k ∷ []) old so_far (so_far ++ row_unmove ∷ []) c.loop-symmetry.invariant.adds
            (adds_one b n of stones of.lesser so_far row_unmove cache))))
        | else-gives_unmove w ↦
            rw w.unmoves-is
            (subst (λ (xs : List Unmove). AddsUnmoves b n of stones of.lesser xs old so_far) (carried_not b stones to from k (sym tested ∙ w.if-gives_unmove.false))
            c.loop-symmetry.invariant.adds)
      ];
    }

pub returns : goal.returns
returns g c =
    let end : c.loop-symmetry.symmetry ≡ g.B.Geometry.shape.symmetries =
    omega (arith, c.loop-symmetry-test.false, c.loop-symmetry.auto.symmetry-end, c.SYMMETRIES-symmetry-end.ensures, g.met.B.Geometry.symmetry_count) in
    subst (λ (xs : List Unmove). AddsUnmoves g.B.Geometry.shape g.B.Geometry.POINTS c.args.classes.now c.args.stones c.args.classes.now.lesser xs c.args.unmoves.now.items c.loop-symmetry.unmoves.items)
    (carried_all g.B.Geometry.shape c.args.stones c.args.to c.args.from c.loop-symmetry.symmetry end) c.loop-symmetry.invariant.adds
