use Rattle.std.proofs.Common.{◌<◌, ◌^◌, ◌∙◌, arith, get_or, [], subst, sym}
use Rattle.morris_board.proofs.ImageTables.{row-grid, row_image}
use Rattle.morris_board.specs.Boards.{grid}
use Rattle.morris_board.specs.declared.grid.TheConstants as table
use Rattle.morris_board.proofs.grid.GridGeometry.image_of.Goals as goal

pub image_by-requires-clause-points : goal.image_by-requires-clause-points
image_by-requires-clause-points c =
    let len = (row-grid c.args.symmetry c.requires.symmetry).len in omega (arith, len)

pub image_by-requires-clause-within : goal.image_by-requires-clause-within
image_by-requires-clause-within c =
    subst (λ n. c.args.set < 2 ^ n) (sym (row-grid c.args.symmetry c.requires.symmetry).len) c.requires.within

pub image_by-requires-clause-images : goal.image_by-requires-clause-images
image_by-requires-clause-images c = λ p here.
    let row = row-grid c.args.symmetry c.requires.symmetry in
    let low : p < 9 = omega (arith, row.len, here) in
    omega (arith, row.within p low)

pub returns : goal.returns
returns c = c.image_by.ensures ∙ row_image grid 9 c.args.symmetry (get_or table.IMAGES c.args.symmetry []) (row-grid c.args.symmetry c.requires.symmetry) c.args.set c.requires.within
