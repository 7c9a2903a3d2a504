-- A refusal of a sweep is that of the sweep or of the pair's graph.
use Rattle.std.proofs.Common.{◌≡◌, Result, Ok, Err, None, IfErr, refl, sym, subst}
use Rattle.std.specs.Result.{IsErrAnd}
use Rattle.morris_board.specs.Boards.{Shape}
use Rattle.morris_index.specs.Pairs.{Counts}
use Rattle.morris_wave.specs.Values.{IsTooDeep}
use Rattle.morris_wave.specs.declared.sweeping.SweepFault.{SweepFault}
use Rattle.morris_wave.specs.declared.sweeping.SweepFault.TheVariants as sweep
use Rattle.morris_pairs.specs.declared.layout.Layout.TheVariants.{Full}
use Rattle.morris_pairs.specs.Building.{IsUnswept, build_fault_of}
use Rattle.morris_pairs.specs.Known.{IsBeyondCodes}
use Rattle.morris_pairs.specs.PairNets.{level_of, net_at}
use Rattle.morris_pairs.specs.Shelves.{Stored, first_missing}

-- what is so of an error that is known is so of the error of an answer
pub err_of : {A E : Type 0} (answer : Result A E) (P : E → Type 0) (e : E) → IsErrAnd answer (λ x. x ≡ e) → P e → IfErr answer P
err_of (Ok x) P e h p = absurd h
err_of (Err y) P e h p = subst P (sym h) p

module _ (B : Type 0) (board : Shape) (shelf : Stored) (c : Counts) where
  pub refused_by_sweep : (fault : SweepFault) → first_missing shelf c ≡ None → (IsTooDeep (net_at board (level_of Full c)) → IsBeyondCodes board c)
      → (fault ≡ sweep.TooDeep → IsTooDeep (net_at board (level_of Full c))) → IsUnswept {B = B} board shelf c (build_fault_of fault)
  refused_by_sweep sweep.TooDeep ready deep h = (ready, record { too_deep = h refl; beyond = deep (h refl) })
  refused_by_sweep sweep.Memory ready deep h = ready
