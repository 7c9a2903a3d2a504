-- Where the free points above the set's first one begin, the set is the last one below.
use Rattle.std.proofs.Common.{◌≡◌, suc, ◌-◌, [], length, map, sym, ap, ◌∙◌, subst, arith, refl}
use Rattle.morris_board.specs.Sets.{has, members, count_of}
use Rattle.morris_board.proofs.PointsLaws.{has-with}
use Rattle.morris_index.specs.Binomials.{choose}
use Rattle.morris_index.specs.Numbering.{rank_of, number_outside, IsRanked}
use Rattle.morris_index.proofs.ChooseLaws.{choose-none}
use Rattle.morris_index.proofs.RankLaws.{count_below}
use Rattle.morris_index.proofs.SetLaws.{count_below_members}
use Rattle.morris_index.proofs.Following.{IsLast, none_before, none_at_all, last_below, last-end, open_is, next_is}
use Rattle.morris_index.proofs.ranks.next_set.Goals as goal

pub returns-in_err-first : goal.returns-in_err-first
unfolding rank_of count_of
returns-in_err-first c =
    let none : members c.args.set ≡ [] = c.in_err-first.ensures.rest in
    rw c.from_residual.ensures
    (ap (λ ps. suc (rank_of (map (number_outside c.args.outside) ps))) none
    ∙ sym (ap (λ ps. choose (number_outside c.args.outside c.args.points) (length ps)) none ∙ choose-none (number_outside c.args.outside c.args.points)))

pub returns-in_err-point : goal.returns-in_err-point
returns-in_err-point c =
    rw c.from_residual-in_err-point.ensures
    (last-end c.args.outside c.args.set c.args.points (omega (arith, c.requires.board)) c.requires.within
    (last_below c.args.outside c.args.set c.requires.apart c.args.points c.in_ok-first.first c.difference-free.result c.in_ok-first.ensures.point.1
    (none_before c.args.set c.in_ok-first.first _ c.in_ok-first.ensures.rest)
    (λ p. c.difference-free.ensures p ∙ rw (c.difference-2.ensures p, c.difference.ensures p, c.below.ensures p, c.below-2.ensures p) refl)
    c.args.points (omega arith) (λ p h. none_at_all c.difference-free.result c.in_err-point.ensures.rest p (omega (arith, c.requires.board)))))

pub least-least-requires-clause-fits : goal.least-least-requires-clause-fits
least-least-requires-clause-fits c =
    let open_ = open_is c.args.outside c.args.set c.requires.apart c.args.points c.in_ok-first.first c.difference-free.result c.in_ok-first.ensures.point.1
    (none_before c.args.set c.in_ok-first.first _ c.in_ok-first.ensures.rest)
    (λ p. c.difference-free.ensures p ∙ rw (c.difference-2.ensures p, c.difference.ensures p, c.below.ensures p, c.below-2.ensures p) refl)
    c.in_ok-point.point c.in_ok-point.ensures.point.1 in
    let last : IsLast c.args.outside c.args.set c.in_ok-point.point =
    last_below c.args.outside c.args.set c.requires.apart c.args.points c.in_ok-first.first c.difference-free.result c.in_ok-first.ensures.point.1
    (none_before c.args.set c.in_ok-first.first _ c.in_ok-first.ensures.rest)
    (λ p. c.difference-free.ensures p ∙ rw (c.difference-2.ensures p, c.difference.ensures p, c.below.ensures p, c.below-2.ensures p) refl)
    c.in_ok-point.point (omega (arith, open_.inside)) (none_before c.difference-free.result c.in_ok-point.point _ c.in_ok-point.ensures.rest) in
    omega (arith, last.fits, c.count_below.ensures, count_below_members c.args.set c.in_ok-point.point (omega (arith, c.in_ok-point.ensures.point.0)))

pub returns : goal.returns
returns c =
    let open_ = open_is c.args.outside c.args.set c.requires.apart c.args.points c.in_ok-first.first c.difference-free.result c.in_ok-first.ensures.point.1
    (none_before c.args.set c.in_ok-first.first _ c.in_ok-first.ensures.rest)
    (λ p. c.difference-free.ensures p ∙ rw (c.difference-2.ensures p, c.difference.ensures p, c.below.ensures p, c.below-2.ensures p) refl)
    c.in_ok-point.point c.in_ok-point.ensures.point.1 in
    let last : IsLast c.args.outside c.args.set c.in_ok-point.point =
    last_below c.args.outside c.args.set c.requires.apart c.args.points c.in_ok-first.first c.difference-free.result c.in_ok-first.ensures.point.1
    (none_before c.args.set c.in_ok-first.first _ c.in_ok-first.ensures.rest)
    (λ p. c.difference-free.ensures p ∙ rw (c.difference-2.ensures p, c.difference.ensures p, c.below.ensures p, c.below-2.ensures p) refl)
    c.in_ok-point.point (omega (arith, open_.inside)) (none_before c.difference-free.result c.in_ok-point.point _ c.in_ok-point.ensures.rest) in
    let passed : c.count_below.result ≡ count_below (has c.args.set) c.in_ok-point.point =
    c.count_below.ensures ∙ count_below_members c.args.set c.in_ok-point.point (omega (arith, c.in_ok-point.ensures.point.0)) in
    next_is c.args.outside c.args.set c.in_ok-point.point last c.args.points c.least-least.result c.union.result
    (omega (arith, c.requires.board)) open_.inside c.requires.within c.requires.apart open_.no_ open_.free open_.some
    (subst (λ m. IsRanked c.in_ok-point.point c.args.outside (m - 1) 0 c.least-least.result) passed c.least-least.ensures)
    (λ p. c.union.ensures p ∙ rw (c.with.ensures, has-with c.difference-3.result c.in_ok-point.point p, c.difference-3.ensures p, c.below-3.ensures p) refl)
