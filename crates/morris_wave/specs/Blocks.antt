-- Cuts of a graph into blocks, and what a block holds.
use Rattle.std.specs.Prelude.{◌≡◌, ℕ, ◌+◌, ◌-◌, ◌*◌, ◌/◌, ◌^◌, ◌<◌, ◌≤◌, Bool, true, false, not, ◌||◌, nat_lt, List, length, map, replicate, slice_index_or}
use Rattle.std.specs.List.{list_all, range_with_len}
use Rattle.morris_wave.specs.Exits.{exits_of, last_due_of}
use Rattle.morris_wave.specs.Nets.{Net}
use Rattle.morris_wave.specs.Values.{HasDepth}
use Rattle.morris_wave.specs.Waves.{entry_at}
use Rattle.morris_wave.specs.NodeRanges.{NodeRangeHolds}
use Rattle.morris_wave.specs.Counts.{AreFew}

-- so many nodes, cut into so many blocks
pub record Parts : Type 0 where
  pub size : ℕ
  pub blocks : ℕ

-- at most 2^40 nodes in 1 to 1,024 blocks
pub record IsCut (c : Parts) : Type 0 where
  pub small : c.size ≤ 2 ^ 40
  pub some : 1 ≤ c.blocks
  pub few : c.blocks ≤ 1024

-- Block k holds the nodes from size * k / blocks up to, not including, size * (k + 1) / blocks,
-- both rounded down.
abbrev pub first_of : Parts → ℕ → ℕ
first_of c k = (c.size * k) / c.blocks

-- the block that holds node i: the last one whose first node is at most i
abbrev pub block_of : Parts → ℕ → ℕ
block_of c i = ((i + 1) * c.blocks - 1) / c.size

-- node i is one of block k: it is not below its first node, and below that of the next block
abbrev pub IsIn : Parts → ℕ → ℕ → Type 0
IsIn c k i = (first_of c k ≤ i) × (i < first_of c (k + 1))

-- The state of a block: its place, its wave, which sources are applied in this wave, and of each
-- source from which of its nodes on they are taken in.
pub record BlockState : Type 0 where
  pub level : ℕ
  pub cut : Parts
  pub number : ℕ
  pub wave : ℕ
  pub applied : List Bool
  pub taken_from : List ℕ

-- all sources of this wave are applied
abbrev pub is_complete : BlockState → Bool
is_complete s = list_all (λ b. b) s.applied

-- from which node on the nodes of a source are taken in
abbrev pub taken_of : BlockState → ℕ → ℕ
taken_of s source = slice_index_or s.taken_from source 0

-- whether the block of a node is applied, or its nodes are taken in from this one or an earlier one
-- on
abbrev pub in_applied : BlockState → ℕ → Bool
in_applied s j = slice_index_or s.applied (block_of s.cut j) false || not (nat_lt j (taken_of s (block_of s.cut j)))

-- the block's first node
abbrev pub first_node : BlockState → ℕ
first_node s = first_of s.cut s.number

-- how many nodes the block has
abbrev pub count_of : BlockState → ℕ
count_of s = first_of s.cut (s.number + 1) - first_of s.cut s.number

-- A block holds, at every moment, what its wave and its applied sources say.
pub record BlockHolds (g : Net) (s : BlockState) (first : ℕ) (codes counters : List ℕ) (due : List (List ℕ)) (last_due most : ℕ) : Type 0 where
  pub cut : IsCut s.cut
  pub size : g.size ≡ s.cut.size
  pub number : s.number < s.cut.blocks
  pub sources : length s.applied ≡ s.cut.blocks
  pub starts : length s.taken_from ≡ s.cut.blocks
  pub wave : s.wave ≤ 65534
  pub first_is : first ≡ first_node s
  pub count_is : length codes ≡ count_of s
  pub node_range : NodeRangeHolds g s.wave (in_applied s) first codes counters due last_due
  -- each node has fewer quiet results than the counters are for
  pub few : AreFew g first (length codes) most

-- What holds of every block, whatever is done with it: it is one of a cut of its graph into at most
-- 1,024 blocks, at one of the waves from 0 to 65,534.
pub record IsBlock (g : Net) (s : BlockState) : Type 0 where
  pub cut : IsCut s.cut
  pub size : g.size ≡ s.cut.size
  pub number : s.number < s.cut.blocks
  pub wave : s.wave ≤ 65534

-- before the first wave, where every source counts as applied
abbrev pub first_wave : ℕ → Parts → ℕ → BlockState
first_wave level cut number = record { level = level; cut = cut; number = number; wave = 0; applied = replicate cut.blocks true; taken_from = replicate cut.blocks 0 }

-- the next wave, with no source applied, and no node of any taken in
abbrev pub next_wave_of : BlockState → BlockState
next_wave_of s = record s { wave = s.wave + 1; applied = replicate s.cut.blocks false; taken_from = replicate s.cut.blocks s.cut.size }

-- the entries of the block's nodes, in their order
abbrev pub entries_of : Net → BlockState → List ℕ
entries_of g s = map (entry_at g s.wave (in_applied s)) (range_with_len (first_node s) (count_of s))

-- the last wave at which an exit of a node of the block comes due, 0 if none does
pub record IsLastDue (g : Net) (s : BlockState) (due : ℕ) : Type 0 where
  pub bound : (i : ℕ) → IsIn s.cut s.number i → last_due_of (exits_of (g.exits i)) ≤ due
  pub reached : 0 < due → (i : ℕ) × (IsIn s.cut s.number i × (last_due_of (exits_of (g.exits i)) ≡ due))

-- A block is settled at a complete wave by which its exits are due, where none of its nodes has the
-- depth of the wave.
pub record IsSettled (g : Net) (s : BlockState) : Type 0 where
  pub complete : is_complete s ≡ true
  pub due : (i : ℕ) → IsIn s.cut s.number i → last_due_of (exits_of (g.exits i)) ≤ s.wave
  pub quiet : (i : ℕ) → IsIn s.cut s.number i → HasDepth g i s.wave → ⊥
