-- Batches for all blocks of a cut.
use Rattle.std.specs.Prelude.{◌≡◌, ℕ, ◌<◌, ◌+◌, List, length}
use Rattle.std.specs.List.{All, sum_by}
use Rattle.morris_wave.specs.Nets.{Net, times}
use Rattle.morris_wave.specs.Lists.{list_at}
use Rattle.morris_wave.specs.Blocks.{Parts, IsIn, block_of}
use Rattle.morris_wave.specs.Batches.{FreshState, BatchState, BatchHolds}

-- each list has nodes of its block alone
abbrev pub AreSorted : Parts → List (List ℕ) → Type 0
AreSorted c lists = (t : ℕ) → t < length lists → All (IsIn c t) (list_at lists t)

-- each node stands in its block's list as often as it did, and once more for each place in the
-- nodes
abbrev pub Deals : Parts → List (List ℕ) → List (List ℕ) → List ℕ → Type 0
Deals c old new nodes = (i : ℕ) → i < c.size → times i (list_at new (block_of c i)) ≡ times i (list_at old (block_of c i)) + times i nodes

-- each node stands in its block's list once for each of its quiet results that is one of the nodes
abbrev pub LeadTo : Net → Parts → List (List ℕ) → List ℕ → Type 0
LeadTo g c lists nodes = (i : ℕ) → i < c.size → times i (list_at lists (block_of c i)) ≡ sum_by (λ x. times x (g.quiet i)) nodes

-- the batch of these nodes from a block's fresh nodes to the block `target`
abbrev pub batch_of : FreshState → ℕ → List ℕ → BatchState
batch_of f target nodes = record { level = f.level; cut = f.cut; wave = f.wave; source = f.source; low = f.low; high = f.high; target = target; nodes = nodes }

-- the batch from a block's fresh nodes to the block `target`, with each predecessor as often as it
-- leads to a fresh node
pub record IsBatchOf (g : Net) (f : FreshState) (target : ℕ) (b : BatchState) : Type 0 where
  pub level : b.level ≡ f.level
  pub cut : b.cut ≡ f.cut
  pub wave : b.wave ≡ f.wave
  pub source : b.source ≡ f.source
  pub low : b.low ≡ f.low
  pub high : b.high ≡ f.high
  pub target_is : b.target ≡ target
  pub holds : BatchHolds g b
