use Rattle.std.proofs.Common.{◌≡◌, ℕ, ◌<◌, take}
use Rattle.std.specs.List.{All, sum_by}
use Rattle.morris_wave.specs.Nets.{times}
use Rattle.morris_pairs.specs.Entries.{entry_count}
use Rattle.morris_pairs.specs.Numberings.{layout_of, pair_of}
use Rattle.morris_pairs.specs.PairNets.{pair_net}
use Rattle.morris_pairs.proofs.predecessors.list_predecessors_of_all.Given as goal

abbrev pub invariant-loop-entry : goal.invariant-loop-entry
invariant-loop-entry g l = record {
  times : (j : ℕ) → j < entry_count g.B.Geometry.shape g.B.Geometry.POINTS (layout_of l.numbering) (pair_of l.numbering)
      → times j l.out.items ≡ sum_by (λ i. times i ((pair_net g.B.Geometry.shape (layout_of l.numbering) (pair_of l.numbering)).quiet j)) (take l.entry-index l.entries);
  inside : All (λ j. j < entry_count g.B.Geometry.shape g.B.Geometry.POINTS (layout_of l.numbering) (pair_of l.numbering)) l.out.items;
}
