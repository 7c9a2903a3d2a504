-- The laws of the two boards, each by computation.
use Rattle.std.specs.Prelude.{◌≡◌, true, length, refl}
use Rattle.morris_board.specs.Boards.{is_board, grid, nine, mills_of}

pub is_board-grid : is_board grid ≡ true
unfolding is_board grid
is_board-grid = refl

pub point_count-grid : grid.points ≡ 9
unfolding grid
point_count-grid = refl

pub mill_count-grid : length (mills_of grid) ≡ 6
unfolding mills_of grid
mill_count-grid = refl

pub id-grid : grid.id ≡ 1
unfolding grid
id-grid = refl

pub is_board-nine : is_board nine ≡ true
unfolding is_board nine
is_board-nine = refl

pub point_count-nine : nine.points ≡ 24
unfolding nine
point_count-nine = refl

pub mill_count-nine : length (mills_of nine) ≡ 16
unfolding mills_of nine
mill_count-nine = refl

pub id-nine : nine.id ≡ 0
unfolding nine
id-nine = refl
