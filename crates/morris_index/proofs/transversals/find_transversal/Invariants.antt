-- The symmetries so far that are in the transversal.
use Rattle.std.proofs.Common.{◌≡◌, ℕ, ◌&&◌, eqb, ltb}
use Rattle.morris_board.specs.Sets.{has}
use Rattle.morris_board.specs.Symmetries.{image_of, inverse_of}
use Rattle.morris_index.specs.Classes.{symmetry_of}
use Rattle.morris_index.proofs.transversals.find_transversal.Given as goal

abbrev pub invariant-loop-symmetry : goal.invariant-loop-symmetry
invariant-loop-symmetry g l =
    (s : ℕ) → has l.symmetries s ≡ (ltb s l.symmetry && eqb (symmetry_of g.B.Geometry.shape (image_of (g.B.Geometry.shape.image s) l.own)) (inverse_of s))
