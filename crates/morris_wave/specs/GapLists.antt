-- Lists of nodes stored as gaps.
use Rattle.std.specs.Prelude.{ℕ, List}
use Rattle.morris_wave.specs.declared.gaps.Gaps.{Gaps}
use Rattle.morris_wave.specs.Gaps.{numbers_reported}

-- the nodes of a list
abbrev pub nodes_of : Gaps → List ℕ
nodes_of list = numbers_reported list.first list.gaps.items
