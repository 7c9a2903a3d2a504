use Rattle.std.proofs.Common.{◌≡◌, ◌-◌, ◌≤◌, Ok}
use Rattle.morris_commands.specs.Probe.{Shelves}
use Rattle.morris_jobs.specs.Inputs.{input_of}
use Rattle.morris_jobs.proofs.BundleLaws.{Leads}
use Rattle.morris_commands.proofs.probe.load_bundle.Given as goal

-- where the files that are left lead, the whole bundle leads; since the start `progress` has
-- changed by reports alone
abbrev pub invariant-loop-place : goal.invariant-loop-place
invariant-loop-place g l = record {
  leads : Leads g.B.Geometry.shape (Shelves g.B.Geometry.shape) (λ full. Ok full) l.initial.shelf
      (input_of (g.I.Source.remaining l.initial.input) (g.I.Source.failures l.initial.input))
      (64 - l.place) l.shelf (input_of (g.I.Source.remaining l.input) (g.I.Source.failures l.input));
  few : l.place ≤ 64;
  unfailed : g.I.Source.failures l.input ≡ g.I.Source.failures l.initial.input;
  reported : g.T.Watch.becomes l.initial.progress l.progress;
}
