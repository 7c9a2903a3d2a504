-- The text of a pair on the command line.
use Rattle.std.specs.Prelude.{ℕ, ◌-◌, Bool, ◌&&◌, nat_eq, List, length, slice_index, Result, Ok, Err, if◌then◌else◌}
use Rattle.std.specs.Char.{is_ascii_digit}
use Rattle.morris_index.specs.Pairs.{Counts, make_pair}
use Rattle.morris_index.specs.declared.faults.PairFault.{PairFault}
use Rattle.morris_jobs.specs.declared.fault.Fault.{Fault}
use Rattle.morris_jobs.specs.declared.fault.Fault.TheVariants as fault
use Rattle.morris_jobs.specs.Faults.{pair_fault}

-- whether a text is a digit, a hyphen (45) and a digit
abbrev pub is_pair_text : List ℕ → Bool
is_pair_text text =
    nat_eq (length text) 3 && (is_ascii_digit (slice_index text 0) && (nat_eq (slice_index text 1) 45 && is_ascii_digit (slice_index text 2)))

-- the pair of the two numbers, or the fault for which they are refused
abbrev pub pair_read : Result Counts PairFault → Result Counts Fault
pair_read (Ok pair) = Ok pair
pair_read (Err refused) = Err (pair_fault refused)

-- What reading the text of a pair gives, on n points: a refusal of any other text, and then what
-- its two digits make (`0` is 48).
abbrev pub read_pair_of : ℕ → List ℕ → Result Counts Fault
read_pair_of n text =
    if is_pair_text text then pair_read (make_pair n (slice_index text 0 - 48) (slice_index text 2 - 48)) else Err fault.PairText
