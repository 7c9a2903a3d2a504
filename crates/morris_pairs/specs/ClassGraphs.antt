-- The graph of a pair by classes.
use Rattle.std.specs.Prelude.{◌≡◌, ℕ}
use Rattle.morris_index.specs.Pairs.{Counts, IsPair}
use Rattle.morris_pairs.specs.declared.layout.Layout.{Layout}
use Rattle.morris_pairs.specs.declared.layout.Layout.TheVariants.{Classes}

-- The entries of the graph of a pair by classes, on n points, are those of its classes.
pub record IsClassGraph (n : ℕ) (c : Counts) (layout : Layout) (of : Counts) : Type 0 where
  pub lawful : IsPair n c
  pub classes : layout ≡ Classes
  pub pair : of ≡ c
