-- How long the lines are that are printed of files.
use Rattle.std.proofs.Common.{◌≡◌, ℕ, ◌+◌, ◌*◌, ◌≤◌, ◌^◌, List, Option, Result, Ok, Err, length, arith, length-append}
use Rattle.std.specs.Prelude.{IfOk}
use Rattle.hex.specs.Hex.{encode_lower, lower_digits}
use Rattle.hex.proofs.HexLemmas.{length-encode_with}
use Rattle.morris_index.specs.Pairs.{Counts}
use Rattle.morris_board.proofs.LengthLaws.{decimal_few}
use Rattle.morris_folder_commands.specs.Into.{filed_text}
use Rattle.morris_jobs.specs.Faults.{PrintsLine}
use Rattle.morris_jobs.specs.declared.fault.Fault.{Fault}

pub filed_few : (pair : Counts) (entries bytes : ℕ) (digest : List ℕ) → length digest ≡ 32 → length (filed_text pair entries bytes digest) ≤ 1024
unfolding filed_text
filed_few pair entries bytes digest long =
    let e : length (encode_lower digest) ≡ 2 * length digest = length-encode_with lower_digits digest in
    simp length-append (omega (arith, decimal_few pair.greater, decimal_few pair.lesser, decimal_few entries, decimal_few bytes, e, long))

-- a short line takes few bytes more
pub line_few : (text : List ℕ) (sent : ℕ) (old new : Option (List ℕ)) (r : Result ℕ Fault) → length text ≤ 1024 → PrintsLine text sent old new r
    → IfOk r (λ now. now ≤ sent + 2 ^ 10)
line_few text sent old new (Ok now) short printed = omega (arith, short, printed.count)
line_few text sent old new (Err f) short printed = tt
