-- How the blocks of a graph are gathered into its codes.
use Rattle.std.specs.Prelude.{◌≡◌, ℕ, ◌+◌, ◌<◌, ◌≤◌, Bool, true, false, ◌&&◌, ◌==◌, if◌then◌else◌, List, [], ◌∷◌, ◌++◌, length, Option, Some, None, is_some, slice_index, slice_index_or, Vec, vec_len}
use Rattle.std.specs.List.{All, list_any, count_by}
use Rattle.std.specs.declared.alloc.Global.{Global}
use Rattle.morris_wave.specs.Nets.{Net}
use Rattle.morris_wave.specs.Values.{HasCode, IsTooDeep, code_within}
use Rattle.morris_wave.specs.Blocks.{Parts, IsCut, BlockState, is_complete, IsSettled}
use Rattle.morris_wave.specs.Answering.{is_same_cut}
use Rattle.morris_wave.specs.declared.gathering.GatherFault.{GatherFault}
use Rattle.morris_wave.specs.declared.gathering.GatherFault.TheVariants.{Foreign, Double, Missing, Memory}

-- whether a block of this number is among these
abbrev pub has_number : List BlockState → ℕ → Bool
has_number blocks k = list_any (λ s. s.number == k) blocks

-- What speaks against a block at its place: it is of another level or cut, its number already came,
-- or it isn't complete at the wave. The first of these counts.
abbrev pub complaint : ℕ → ℕ → Parts → ℕ → Bool → BlockState → Option GatherFault
complaint level wave cut place came s =
    if (s.level == level) && is_same_cut s.cut cut
    then (if came then Some (Double s.number) else (if (s.wave == wave) && is_complete s then None else Some (Missing s.number)))
    else Some (Foreign place)

-- the first of two faults, where there is one
abbrev pub first_fault : Option GatherFault → Option GatherFault → Option GatherFault
first_fault (Some fault) later = Some fault
first_fault None later = later

-- the first thing that speaks against one of these blocks, which come after those before them
unfoldable pub first_complaint : ℕ → ℕ → Parts → List BlockState → List BlockState → Option GatherFault
first_complaint level wave cut before [] = None
first_complaint level wave cut before (s ∷ rest) =
    first_fault (complaint level wave cut (length before) (has_number before s.number) s)
    (first_complaint level wave cut (before ++ s ∷ []) rest)

-- the least number of the cut that no block has
pub record IsLeastAbsent (cut : Parts) (blocks : List BlockState) (k : ℕ) : Type 0 where
  pub in_cut : k < cut.blocks
  pub absent : has_number blocks k ≡ false
  pub least : (m : ℕ) → m < k → has_number blocks m ≡ true

-- each block of the cut came
abbrev pub HasAll : Parts → List BlockState → Type 0
HasAll cut blocks = (k : ℕ) → k < cut.blocks → has_number blocks k ≡ true

-- each block of the cut came once
abbrev pub ComesOnce : Parts → List BlockState → Type 0
ComesOnce cut blocks = (k : ℕ) → k < cut.blocks → count_by (λ s. s.number == k) blocks ≡ 1

-- After a walk through all blocks, the least absent number is missing; want of memory comes last.
abbrev pub IsLateFault : Parts → List BlockState → GatherFault → Type 0
IsLateFault cut blocks (Foreign place) = ⊥
IsLateFault cut blocks (Double k) = ⊥
IsLateFault cut blocks (Missing k) = IsLeastAbsent cut blocks k
IsLateFault cut blocks Memory = HasAll cut blocks

-- the fault after a walk: what it found, otherwise what comes after it
abbrev pub IsFaultAfter : Option GatherFault → Parts → List BlockState → GatherFault → Type 0
IsFaultAfter (Some found) cut blocks fault = fault ≡ found
IsFaultAfter None cut blocks fault = IsLateFault cut blocks fault

-- the fault of a gathering: what a walk through the blocks finds first, otherwise what comes after
-- it
abbrev pub IsGatherFault : ℕ → ℕ → Parts → List BlockState → GatherFault → Type 0
IsGatherFault level wave cut blocks fault = IsFaultAfter (first_complaint level wave cut [] blocks) cut blocks fault

-- a block of this level and cut that is complete at the wave
pub record Fits (level wave : ℕ) (cut : Parts) (s : BlockState) : Type 0 where
  pub level_is : s.level ≡ level
  pub cut_is : s.cut ≡ cut
  pub wave_is : s.wave ≡ wave
  pub complete : is_complete s ≡ true

-- where the block of each number stands, if it came
pub record ArePlaces (blocks : List BlockState) (places : List (Option ℕ)) : Type 0 where
  pub len : length places ≡ 1024
  pub came : (k : ℕ) → k < 1024 → is_some (slice_index_or places k None) ≡ has_number blocks k
  pub at : (k p : ℕ) → slice_index_or places k None ≡ Some p → (p < length blocks) × ((d : BlockState) → (slice_index_or blocks p d).number ≡ k)

-- The codes of all nodes of a graph, as far as they are known at a wave: 0 for a depth above it.
pub record AreKnown (g : Net) (wave : ℕ) (cut : Parts) (codes : Vec ℕ Global) : Type 0 where
  pub is_cut : IsCut cut
  pub size : g.size ≡ cut.size
  pub early : wave ≤ 65534
  pub len : vec_len codes ≡ cut.size
  pub each : (i : ℕ) → i < cut.size → slice_index codes.items i ≡ code_within g (wave + 1) i

-- What is gathered: these codes, from blocks of this level and cut that are complete at the wave,
-- each of the cut once. Where all of them are settled, no later wave gives a code.
pub record IsGathered (g : Net) (level wave : ℕ) (cut : Parts) (blocks : List BlockState) (codes : Vec ℕ Global) : Type 0 where
  pub fit : All (Fits level wave cut) blocks
  pub walked : first_complaint level wave cut [] blocks ≡ None
  pub all : HasAll cut blocks
  pub once : ComesOnce cut blocks
  pub known : AreKnown g wave cut codes
  pub settled : All (IsSettled g) blocks → (i : ℕ) → i < cut.size → HasCode g i (slice_index codes.items i)
  pub deep : All (IsSettled g) blocks → ¬ IsTooDeep g
