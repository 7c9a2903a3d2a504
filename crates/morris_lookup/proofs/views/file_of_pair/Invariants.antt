-- No file so far names the pair.
use Rattle.std.proofs.Common.{◌≡◌, drop}
use Rattle.morris_lookup.specs.Views.{file_of_pair, contents}
use Rattle.morris_lookup.proofs.views.file_of_pair.Given as goal

abbrev pub invariant-loop-view : goal.invariant-loop-view
invariant-loop-view g l = file_of_pair (contents l.files) l.pair ≡ file_of_pair (contents (drop l.view-index l.files)) l.pair
