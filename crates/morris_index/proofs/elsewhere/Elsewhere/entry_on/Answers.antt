-- The numbers with that of the point are those of the opponent's stones.
use Rattle.std.proofs.Common.{◌≡◌, ◌+◌, ◌*◌, ◌%◌, ◌^◌, ◌<◌, map, ap, subst, ◌∙◌, arith}
use Rattle.std.proofs.Math.Nat.{mod-eq_of_lt, pow-le-pow_right}
use Rattle.morris_board.specs.Sets.{members, count_of}
use Rattle.morris_index.specs.Moves.{InPair}
use Rattle.morris_index.specs.Numbering.{rank_of, number_outside}
use Rattle.morris_index.specs.Standings.{IsElsewhere}
use Rattle.morris_index.proofs.ElsewhereLaws.{on_board, number_few, numbers_within, numbers_counted, entry_there, entry_inside}
use Rattle.morris_index.proofs.SumLaws.{rank-small}
use Rattle.morris_index.proofs.elsewhere.Elsewhere.entry_on.Given as given
use Rattle.morris_index.proofs.elsewhere.Elsewhere.entry_on.Goals as goal
use Rattle.morris_index.proofs.elsewhere.Elsewhere.entry_on.Goals.{After-mask}

table : (g : given.Over) (c : After-mask g) → IsElsewhere g.B.Geometry.shape g.B.Geometry.POINTS c.args.self.now c.self.inside.standing c.self.inside.numbers c.self.inside.rows
table g c =
    subst (λ (q : InPair). IsElsewhere g.B.Geometry.shape g.B.Geometry.POINTS q c.self.inside.standing c.self.inside.numbers c.self.inside.rows) c.self.view_is c.self.invariant

point_low : (g : given.Over) (c : After-mask g) → c.args.point < 24
point_low g c =
    omega (arith, on_board g.B.Geometry.shape g.B.Geometry.POINTS g.met.B.Geometry.few g.met.B.Geometry.point_count g.met.B.Geometry.has_symmetries c.args.self.now c.self.inside.standing c.self.inside.numbers c.self.inside.rows (table g c) c.args.point c.requires.free c.requires.lawful, g.met.B.Geometry.few)

number_low : (g : given.Over) (c : After-mask g) → c.number_outside-number.result < 24
number_low g c =
    omega (
      arith,
      c.number_outside-number.ensures,
      number_few g.B.Geometry.shape g.B.Geometry.POINTS g.met.B.Geometry.few g.met.B.Geometry.point_count g.met.B.Geometry.has_symmetries c.args.self.now c.self.inside.standing c.self.inside.numbers c.self.inside.rows (table g c) c.args.point c.requires.free c.requires.lawful,
      point_low g c,
    )

sum : (g : given.Over) (c : After-mask g) → c.mask.result + 1 * 2 ^ c.number_outside-number.result % 4294967296
    ≡ c.self.inside.numbers + 2 ^ number_outside c.self.inside.standing.own c.args.point
sum g c =
    let small = pow-le-pow_right {n = 2} (omega arith) {i = c.number_outside-number.result} {j = 24} (omega (arith, number_low g c)) in
    let whole : 1 * 2 ^ c.number_outside-number.result % 4294967296 ≡ 1 * 2 ^ c.number_outside-number.result = mod-eq_of_lt (omega (arith, small)) in
    omega (arith, whole, c.mask.ensures, ap (λ n. 2 ^ n) c.number_outside-number.ensures)

pub number_outside-number-requires : goal.number_outside-number-requires
number_outside-number-requires g c =
    omega (
      arith,
      on_board g.B.Geometry.shape g.B.Geometry.POINTS g.met.B.Geometry.few g.met.B.Geometry.point_count g.met.B.Geometry.has_symmetries c.args.self.now c.self.inside.standing c.self.inside.numbers c.self.inside.rows
          (subst (λ (q : InPair). IsElsewhere g.B.Geometry.shape g.B.Geometry.POINTS q c.self.inside.standing c.self.inside.numbers c.self.inside.rows) c.self.view_is c.self.invariant)
          c.args.point c.requires.free c.requires.lawful,
      g.met.B.Geometry.few,
    )

pub overflow_shl-numbers : goal.overflow_shl-numbers
overflow_shl-numbers g c = omega (arith, number_low g (goal.at.overflow_shl-numbers g c).After-mask)

pub overflow_add-numbers : goal.overflow_add-numbers
overflow_add-numbers g c =
    omega (
      arith,
      sum g (goal.at.overflow_add-numbers g c).After-mask,
      numbers_within g.B.Geometry.shape g.B.Geometry.POINTS g.met.B.Geometry.few g.met.B.Geometry.point_count g.met.B.Geometry.has_symmetries c.args.self.now c.self.inside.standing c.self.inside.numbers c.self.inside.rows (table g (goal.at.overflow_add-numbers g c).After-mask) c.args.point c.requires.free c.requires.lawful,
    )

pub rank-requires-clause-board : goal.rank-requires-clause-board
rank-requires-clause-board g c =
    omega (
      arith,
      c.from_mask.ensures,
      sum g (goal.at.rank-requires-clause-board g c).After-mask,
      numbers_within g.B.Geometry.shape g.B.Geometry.POINTS g.met.B.Geometry.few g.met.B.Geometry.point_count g.met.B.Geometry.has_symmetries c.args.self.now c.self.inside.standing c.self.inside.numbers c.self.inside.rows (table g (goal.at.rank-requires-clause-board g c).After-mask) c.args.point c.requires.free c.requires.lawful,
    )

pub rank-requires-clause-counted : goal.rank-requires-clause-counted
rank-requires-clause-counted g c =
    ap count_of (c.from_mask.ensures ∙ sum g (goal.at.rank-requires-clause-counted g c).After-mask)
    ∙ numbers_counted g.B.Geometry.shape g.B.Geometry.POINTS g.met.B.Geometry.few g.met.B.Geometry.point_count g.met.B.Geometry.has_symmetries c.args.self.now c.self.inside.standing c.self.inside.numbers c.self.inside.rows (table g (goal.at.rank-requires-clause-counted g c).After-mask) c.args.point c.requires.free c.requires.lawful

pub overflow_add-result : goal.overflow_add-result
overflow_add-result g c =
    let k = table g (goal.at.overflow_add-result g c).After-mask in
    let numbers = numbers_within g.B.Geometry.shape g.B.Geometry.POINTS g.met.B.Geometry.few g.met.B.Geometry.point_count g.met.B.Geometry.has_symmetries c.args.self.now c.self.inside.standing c.self.inside.numbers c.self.inside.rows (table g (goal.at.overflow_add-result g c).After-mask) c.args.point c.requires.free c.requires.lawful in
    omega (
      arith,
      k.stands.few,
      c.rank.ensures,
      rank-small 0 c.from_mask.result (omega (arith, c.from_mask.ensures, sum g (goal.at.overflow_add-result g c).After-mask, numbers)),
    )

pub returns-clause-value : goal.returns-clause-value
returns-clause-value g c =
    ap (λ r. c.self.inside.standing.start + r) (c.rank.ensures
    ∙ ap (λ x. rank_of (map (number_outside 0) (members x))) (c.from_mask.ensures ∙ sum g (goal.at.returns-clause-value g c).After-mask))
    ∙ entry_there g.B.Geometry.shape g.B.Geometry.POINTS g.met.B.Geometry.few g.met.B.Geometry.point_count g.met.B.Geometry.has_symmetries c.args.self.now c.self.inside.standing c.self.inside.numbers c.self.inside.rows (table g (goal.at.returns-clause-value g c).After-mask) c.args.point c.requires.free c.requires.lawful

pub returns-clause-below : goal.returns-clause-below
returns-clause-below g c =
    let value = ap (λ r. c.self.inside.standing.start + r) (c.rank.ensures
    ∙ ap (λ x. rank_of (map (number_outside 0) (members x))) (c.from_mask.ensures ∙ sum g (goal.at.returns-clause-below g c).After-mask))
    ∙ entry_there g.B.Geometry.shape g.B.Geometry.POINTS g.met.B.Geometry.few g.met.B.Geometry.point_count g.met.B.Geometry.has_symmetries c.args.self.now c.self.inside.standing c.self.inside.numbers c.self.inside.rows (table g (goal.at.returns-clause-below g c).After-mask) c.args.point c.requires.free c.requires.lawful in
    rw value (entry_inside g.B.Geometry.shape g.B.Geometry.POINTS g.met.B.Geometry.few g.met.B.Geometry.point_count g.met.B.Geometry.has_symmetries c.args.self.now c.self.inside.standing c.self.inside.numbers c.self.inside.rows (table g (goal.at.returns-clause-below g c).After-mask) c.args.point c.requires.free c.requires.lawful)
