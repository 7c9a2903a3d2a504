-- What is known of a folder of the system.
use Rattle.std.specs.Prelude.{ℕ, Bool, Option}
use Rattle.morris_files.specs.declared.reason.Reason.{Reason}

-- how many of its calls have failed, whether it holds the lock, and why the first call failed
pub record State : Type 0 where
  pub failures : ℕ
  pub locked : Bool
  pub why : Option Reason
