-- What is stored of a range of nodes, in place of their exits.
use Rattle.std.specs.Prelude.{◌≡◌, ℕ, ◌+◌, ◌-◌, ◌%◌, ◌<◌, ◌≤◌, Bool, true, false, ◌&&◌, nat_lt, List, length, slice_index, Some, None, ◌==◌, if◌then◌else◌}
use Rattle.std.specs.List.{All}
use Rattle.std.specs.List.Sorted.{IsNonDecreasingBy}
use Rattle.morris_wave.specs.declared.graph.Exits.{Exits}
use Rattle.morris_wave.specs.Exits.{is_odd, exits_of, exits_won, due_of, last_due_of}
use Rattle.morris_wave.specs.Nets.{Net, times}
use Rattle.morris_wave.specs.Lists.{list_at}
use Rattle.morris_wave.specs.Waves.{open_at, entry_at}
use Rattle.morris_wave.specs.Solving.{Marks, among, every}

-- The wave at which the exits of a node come due, 0 where they never do: the first one that is
-- lost, or where none is lost and none drawn the last one that is won.
abbrev pub due_wave : Exits → ℕ
due_wave e = elim e.least_lost [ None ↦ if e.drawn then 0 else due_of e.greatest_won | Some depth ↦ depth + 1 ]

-- one result more to wait for, as long as not every exit is won in fewer than n plies
abbrev pub waits : ℕ → Exits → ℕ
waits n e = if exits_won n e then 0 else 1

-- how many results a node waits for: the quiet ones that aren't both known and won, and its exits
-- as one
abbrev pub pending_at : Net → ℕ → (ℕ → Bool) → ℕ → ℕ
pending_at g n applied i = open_at g n applied i + waits n (exits_of (g.exits i))

-- the code of a node of a block
abbrev pub code_of : ℕ → List ℕ → ℕ → ℕ
code_of first codes i = slice_index codes (i - first)

-- The decided nodes, each once, in order of their codes. Those up to `before` have codes below the
-- wave, those up to `here` the wave itself, the others one more. Unless all are retained, nodes of
-- codes below the wave may be missing.
pub record Ranked (all : Bool) (first wave : ℕ) (codes decided : List ℕ) (before here : ℕ) : Type 0 where
  pub inside : All (λ i. (first ≤ i) × (i < first + length codes)) decided
  pub once : (k : ℕ) → k < length codes → (all ≡ false → 0 < slice_index codes k → wave ≤ slice_index codes k)
      → times (first + k) decided ≡ (if slice_index codes k == 0 then 0 else 1)
  pub order : IsNonDecreasingBy (code_of first codes) decided
  pub starts : before ≤ here
  pub within : here ≤ length decided
  pub early : (p : ℕ) → p < before → code_of first codes (slice_index decided p) < wave
  pub last : (p : ℕ) → before ≤ p → p < here → code_of first codes (slice_index decided p) ≡ wave
  pub this : (p : ℕ) → here ≤ p → p < length decided → code_of first codes (slice_index decided p) ≡ wave + 1

-- The nodes from `first` on whose wave is n stand once each in the list of n, for each n from
-- `since` on; the list of 0 is empty. Earlier lists may be gone.
pub record ListsDue (f : ℕ → ℕ) (since first count : ℕ) (due : List (List ℕ)) : Type 0 where
  pub inside : (n : ℕ) → All (λ i. (first ≤ i) × (i < first + count)) (list_at due n)
  pub once : (n k : ℕ) → since ≤ n → k < count → times (first + k) (list_at due n) ≡ (if nat_lt 0 n && (f k == n) then 1 else 0)

-- so many falls until a counter of 16 bits is spent: one that reads 0 stands for 65,536
abbrev pub left_of : ℕ → ℕ
left_of counter = (counter + 65535) % 65536 + 1

-- counters that fell by one for each time that the number of their place stands in a list, and wrap
abbrev pub LowersBy : (ℕ → ℕ) → List ℕ → List ℕ → List ℕ → Type 0
LowersBy number old new list = (k : ℕ) → k < length old → (slice_index new k + times (number k) list) % 65536 ≡ slice_index old k

-- Nodes with a result that is known since this wave were taken in, each as often as it has one:
-- those that lead to fresh nodes, or those whose exits come due. At an odd wave these results are
-- lost, and the nodes are won. At an even wave they are won: the counters fall, and a node is lost
-- as its counter is spent.
pub record Takes (n first : ℕ) (nodes codes codes' counters counters' : List ℕ) : Type 0 where
  pub odd : is_odd n ≡ true → Marks codes codes' (λ k. among nodes (first + k)) (n + 1) × (counters' ≡ counters)
  pub even : is_odd n ≡ false → LowersBy (λ k. first + k) counters counters' nodes × Marks codes codes' (λ k. among nodes (first + k) && slice_index counters' k == 0) (n + 1)

-- waves after 65,534 never come
abbrev pub due_within : ℕ → ℕ
due_within wave = if nat_lt wave 65535 then wave else 0

-- The range of the nodes from `first` on at a wave, of which the nodes that pass a test are
-- applied: their codes, what they wait for, which of them come due by their exits at later waves,
-- and when the last exit does.
pub record NodeRangeHolds (g : Net) (n : ℕ) (applied : ℕ → Bool) (first : ℕ) (codes counters : List ℕ) (due : List (List ℕ)) (last_due : ℕ) : Type 0 where
  pub in_graph : first + length codes ≤ g.size
  pub counters_len : length counters ≡ length codes
  pub codes_are : (k : ℕ) → k < length codes → slice_index codes k ≡ entry_at g n applied (first + k)
  pub counters_are : (k : ℕ) → k < length codes → slice_index counters k ≡ pending_at g n applied (first + k) % 65536
  pub due_are : ListsDue (λ k. due_within (due_wave (exits_of (g.exits (first + k))))) (n + 1) first (length codes) due
  pub bound : (k : ℕ) → k < length codes → last_due_of (exits_of (g.exits (first + k))) ≤ last_due
  pub reached : 0 < last_due → (k : ℕ) × ((k < length codes) × (last_due_of (exits_of (g.exits (first + k))) ≡ last_due))

-- What was read of the nodes before a place, each of which has fewer quiet results than `most`:
-- their first entries, what they wait for, when their exits decide and when the last exit comes
-- due. The others are open, and no wave is written for them yet.
pub record HasRead (g : Net) (most first place : ℕ) (codes counters waves : List ℕ) (last_due : ℕ) : Type 0 where
  pub few : (k : ℕ) → k < place → length (g.quiet (first + k)) < most
  pub codes_are : (k : ℕ) → k < place → slice_index codes k ≡ entry_at g 0 every (first + k)
  pub counters_are : (k : ℕ) → k < place → slice_index counters k ≡ pending_at g 0 every (first + k) % 65536
  pub waves_are : (k : ℕ) → k < place → slice_index waves k ≡ due_within (due_wave (exits_of (g.exits (first + k))))
  pub bound : (k : ℕ) → k < place → last_due_of (exits_of (g.exits (first + k))) ≤ last_due
  pub reached : 0 < last_due → (k : ℕ) × ((k < place) × (last_due_of (exits_of (g.exits (first + k))) ≡ last_due))
  pub open_yet : (k : ℕ) → place ≤ k → k < length codes → slice_index codes k ≡ 0
  pub unwritten : (k : ℕ) → place ≤ k → k < length codes → slice_index waves k ≡ 0
