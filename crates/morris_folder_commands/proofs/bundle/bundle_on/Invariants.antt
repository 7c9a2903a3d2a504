use Rattle.std.proofs.Common.{◌≡◌, ◌*◌, ◌-◌, ◌≤◌, ◌^◌, false}
use Rattle.morris_jobs.specs.Inputs.{input_of}
use Rattle.morris_jobs.proofs.BundleLaws.{Leads}
use Rattle.morris_folder_commands.specs.Bundle.{TakesFile, reached}
use Rattle.morris_folder_commands.specs.From.{end_of}
use Rattle.morris_folder_commands.proofs.bundle.bundle_on.Given as goal

-- where the files that are left lead, the whole bundle leads; no call failed; since the start
-- `progress` has changed by reports alone
abbrev pub invariant-loop-place : goal.invariant-loop-place
invariant-loop-place g l = record {
  leads : Leads g.B.Geometry.shape (TakesFile g.B.Geometry.shape) (λ here. end_of here.some) (reached l.initial.tables false 0 (g.O.Sink.contents l.initial.output))
      (input_of (g.I.Source.remaining l.initial.input) (g.I.Source.failures l.initial.input))
      (64 - l.place) (reached l.tables l.found l.sent (g.O.Sink.contents l.output))
      (input_of (g.I.Source.remaining l.input) (g.I.Source.failures l.input));
  most : l.place ≤ 64;
  few : l.sent ≤ 2 ^ 10 * l.place;
  unfailed : g.I.Source.failures l.input ≡ g.I.Source.failures l.initial.input;
  uncounted : g.O.Sink.failures l.output ≡ g.O.Sink.failures l.initial.output;
  reported : g.T.Watch.becomes l.initial.progress l.progress;
}
