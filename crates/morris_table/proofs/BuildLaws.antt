-- What a build answers, over the graph of the pair in some order of its nodes.
use Rattle.std.proofs.Common.{◌≡◌, ℕ, Option, None, ◌↔◌}
use Rattle.morris_board.specs.Boards.{Shape}
use Rattle.morris_index.specs.Pairs.{Counts}
use Rattle.morris_wave.specs.Values.{IsTooDeep}
use Rattle.morris_workers.specs.Ranges.{range_fault}
use Rattle.morris_workers.specs.Solving.{IsRefusal}
use Rattle.morris_workers.specs.declared.fault.SolveFault.{SolveFault}
use Rattle.morris_workers.specs.declared.fault.SolveFault.TheVariants as solve
use Rattle.morris_pairs.specs.declared.layout.Layout.{Layout}
use Rattle.morris_pairs.specs.declared.layout.Layout.TheVariants.{Full, Classes}
use Rattle.morris_pairs.specs.Building.{IsBuilt, IsPastCodes}
use Rattle.morris_pairs.specs.Known.{IsBeyondCodes}
use Rattle.morris_pairs.specs.Orders.{Order}
use Rattle.morris_pairs.specs.PairNets.{level_in, level_of, net_at}
use Rattle.morris_pairs.specs.Shelves.{Stored, first_missing}
use Rattle.morris_pairs.specs.Tables.{Table, IsTable}
use Rattle.morris_table.specs.Building.{IsUnbuilt, MayWantMemory, build_fault_of}

-- memory may be wanting in either layout once the numbers are in range
late_memory : (l : Layout) (range : Option SolveFault) → range ≡ None → MayWantMemory l range
late_memory Full range late = late
late_memory Classes range late = tt

-- The graph that was built is too deep for codes exactly where the entries of the layout are.
module _ (board : Shape) (c : Counts) (l : Layout) (o : Order)
    (nodes : IsTooDeep (net_at board (level_in o c)) ↔ IsBeyondCodes board c)
    (entries : IsTooDeep (net_at board (level_of l c)) ↔ IsBeyondCodes board c) where
  past_codes : IsTooDeep (net_at board (level_in o c)) → IsPastCodes board l c
  past_codes deep = record { too_deep = entries.1 (nodes.0 deep); beyond = nodes.0 deep }

  -- codes of its nodes make the table
  pub built_of_codes : (IsTooDeep (net_at board (level_in o c)) → ⊥) → (t : Table) → t.pair ≡ c → t.layout ≡ l → IsTable board t → IsBuilt board l c t
  built_of_codes suffice t pair layout exact = record {
    pair = pair;
    layout = layout;
    exact = exact;
    not_too_deep = λ deep. suffice (nodes.1 (entries.0 deep));
    within = λ beyond. suffice (nodes.1 beyond);
  }

  -- a refusal of the workers is one of the build
  pub refused_by_workers : (B : Type 0) (shelf : Stored) (workers blocks : ℕ) (fault : SolveFault) → first_missing shelf c ≡ None
      → IsRefusal (net_at board (level_in o c)) workers blocks fault → IsUnbuilt {B = B} board shelf l c workers blocks (build_fault_of fault)
  refused_by_workers B shelf workers blocks solve.Workers ready h = (ready, h)
  refused_by_workers B shelf workers blocks solve.Blocks ready h = (ready, h)
  refused_by_workers B shelf workers blocks solve.Memory ready h = (ready, late_memory l (range_fault workers blocks) h)
  refused_by_workers B shelf workers blocks (solve.Missing number) ready h = (ready, h.0, h.1)
  refused_by_workers B shelf workers blocks solve.TooDeep ready h = (ready, h.0, past_codes h.1)
