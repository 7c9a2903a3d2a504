-- What stays of a range of nodes at a wave, and a range that is a whole graph.
use Rattle.std.specs.Prelude.{◌≡◌, ℕ, Bool, length, take}
use Rattle.morris_wave.specs.Nets.{Net}
use Rattle.morris_wave.specs.NodeRanges.{NodeRangeHolds}
use Rattle.morris_wave.specs.Counts.{counts_of, most_of, AreFew}
use Rattle.morris_wave.specs.declared.node_list.NodeList.{Ghosts}
use Rattle.morris_wave.specs.declared.listed.Listed.{Listed}
use Rattle.morris_wave.specs.declared.node_range.NodeRange.{NodeRange}

-- As entries get their codes at a wave, the nodes stay, and so do the wave and the nodes that were
-- decided before it.
pub record SameFrame {L : Type 0} {kind : Ghosts L} (old new : Listed L kind) : Type 0 where
  pub len : length new.codes ≡ length old.codes
  pub first : new.first ≡ old.first
  pub wave : new.wave ≡ old.wave
  pub before : new.before ≡ old.before
  pub here : new.here ≡ old.here
  pub list : take old.here (kind.items new.decided) ≡ take old.here (kind.items old.decided)

-- The range is the whole graph at its wave, of which the nodes that pass a test are applied.
pub record IsWhole {L : Type 0} {kind : Ghosts L} (g : Net) (applied : ℕ → Bool) (whole : NodeRange L kind) : Type 0 where
  pub first : whole.entries.first ≡ 0
  pub len : length whole.entries.codes ≡ g.size
  pub few : AreFew g 0 g.size (most_of whole.counters)
  pub holds : NodeRangeHolds g whole.entries.wave applied 0 whole.entries.codes (counts_of whole.counters) whole.due whole.last_due
