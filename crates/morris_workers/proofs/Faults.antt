-- What the faults of a solver say: where blocks aren't gathered, the block that counts as missing
-- is one of them.
use Rattle.std.proofs.Common.{Result, Ok, Err, IfErr, ◌≡◌, ℕ, ◌+◌, ◌<◌, ◌≤◌, Bool, true, false, ◌&&◌, cond, eqb, List, [], ◌∷◌, ◌++◌, Option, Some, None, length, refl, sym, subst, arith, length-append}
use Rattle.std.specs.List.{All}
use Rattle.std.proofs.lemmas.List.Elements.{All-head, All-tail}
use Rattle.morris_wave.specs.Nets.{Net}
use Rattle.morris_wave.specs.Blocks.{Parts, BlockState, is_complete}
use Rattle.morris_wave.specs.Answering.{is_same_cut}
use Rattle.morris_wave.specs.Gathering.{has_number, complaint, first_fault, first_complaint, IsLateFault, IsFaultAfter, IsGatherFault}
use Rattle.morris_wave.specs.declared.gathering.GatherFault.{GatherFault}
use Rattle.morris_wave.specs.declared.gathering.GatherFault.TheVariants.{Foreign, Double, Missing, Memory}
use Rattle.morris_workers.specs.Ranges.{Tells, range_fault, solve_fault_of}
use Rattle.morris_workers.specs.Solving.{IsRefusal}
use Rattle.morris_workers.specs.Making.{IsMakingFault}
use Rattle.morris_workers.specs.declared.fault.SolveFault.{SolveFault}
use Rattle.morris_workers.specs.declared.fault.SolveFault.TheVariants as solve

module _ (g : Net) (n : ℕ) where
  same_fault : (found f : GatherFault) → Some found ≡ Some f → Tells g n (solve_fault_of found) → Tells g n (solve_fault_of f)
  same_fault found f e h = let same : found ≡ f = cc in subst (λ (x : GatherFault). Tells g n (solve_fault_of x)) same h

  one_complaint : (a came b : Bool) (place k : ℕ) (f : GatherFault) → place < n → k < n
      → cond {A = Option GatherFault} a (cond {A = Option GatherFault} came (Some (Double k)) (cond {A = Option GatherFault} b None (Some (Missing k)))) (Some (Foreign place)) ≡ Some f
      → Tells g n (solve_fault_of f)
  one_complaint true true b place k f p q e = same_fault (Double k) f e q
  one_complaint true false true place k f p q e = absurd (cc)
  one_complaint true false false place k f p q e = same_fault (Missing k) f e q
  one_complaint false came b place k f p q e = same_fault (Foreign place) f e p

  first_of_two : (o later : Option GatherFault) (f : GatherFault) → ((x : GatherFault) → o ≡ Some x → Tells g n (solve_fault_of x)) → ((x : GatherFault) → later ≡ Some x → Tells g n (solve_fault_of x))
      → first_fault o later ≡ Some f → Tells g n (solve_fault_of f)
  first_of_two (Some found) later f here after e = here f e
  first_of_two None later f here after e = after f e

  module _ (level wave : ℕ) (cut : Parts) where
    walked : (before blocks : List BlockState) → length before + length blocks ≤ n → All (λ s. s.number < n) blocks → (f : GatherFault) → first_complaint level wave cut before blocks ≡ Some f
        → Tells g n (solve_fault_of f)
    unfolding first_complaint
    walked before [] room numbers f e = absurd (cc)
    walked before (s ∷ rest) room numbers f e =
        first_of_two (complaint level wave cut (length before) (has_number before s.number) s) (first_complaint level wave cut (before ++ s ∷ []) rest) f
        (λ x h. one_complaint (eqb s.level level && is_same_cut s.cut cut) (has_number before s.number) (eqb s.wave wave && is_complete s) (length before) s.number x (omega arith)
        (All-head (λ t. t.number < n) s rest numbers) h)
        (walked (before ++ s ∷ []) rest (omega (arith, length-append before (s ∷ []), room)) (All-tail (λ t. t.number < n) s rest numbers)) e

  after_walk : (cut : Parts) (blocks : List BlockState) (f : GatherFault) → cut.blocks ≡ n → IsLateFault cut blocks f → Tells g n (solve_fault_of f)
  after_walk cut blocks (Foreign place) e h = absurd h
  after_walk cut blocks (Double k) e h = absurd h
  after_walk cut blocks (Missing k) e h = omega (arith, h.in_cut, e)
  after_walk cut blocks Memory e h = tt

  either_way : (o : Option GatherFault) (cut : Parts) (blocks : List BlockState) (f : GatherFault) → cut.blocks ≡ n → ((x : GatherFault) → o ≡ Some x → Tells g n (solve_fault_of x))
      → IsFaultAfter o cut blocks f → Tells g n (solve_fault_of f)
  either_way (Some found) cut blocks f e there h = subst (λ (x : GatherFault). Tells g n (solve_fault_of x)) (sym h) (there found refl)
  either_way None cut blocks f e there h = after_walk cut blocks f e h

pub gather_tells : (g : Net) (level wave : ℕ) (cut : Parts) (blocks : List BlockState) (f : GatherFault) → length blocks ≡ cut.blocks → All (λ s. s.number < length blocks) blocks
    → IsGatherFault level wave cut blocks f → Tells g cut.blocks (solve_fault_of f)
gather_tells g level wave cut blocks f count numbers h =
    subst (λ (n : ℕ). Tells g n (solve_fault_of f)) count
    (either_way g (length blocks) (first_complaint level wave cut [] blocks) cut blocks f (sym count)
    (walked g (length blocks) level wave cut [] blocks (omega arith) numbers) h)

-- what a fault says once the numbers are in range is why a solver refuses
pub late_refusal : {A : Type 0} (g : Net) (workers blocks : ℕ) (answer : Result A SolveFault) → range_fault workers blocks ≡ None
    → IfErr answer (Tells g blocks) → IfErr answer (IsRefusal g workers blocks)
late_refusal g workers blocks (Ok x) range h = tt
late_refusal g workers blocks (Err solve.Workers) range h = absurd h
late_refusal g workers blocks (Err solve.Blocks) range h = absurd h
late_refusal g workers blocks (Err solve.Memory) range h = range
late_refusal g workers blocks (Err (solve.Missing number)) range h = (range, h)
late_refusal g workers blocks (Err solve.TooDeep) range h = (range, h)

-- why blocks aren't made is among what a fault says
pub making_tells : (g : Net) (blocks : ℕ) (fault : SolveFault) → IsMakingFault g fault → Tells g blocks fault
making_tells g blocks solve.Workers h = absurd h
making_tells g blocks solve.Blocks h = absurd h
making_tells g blocks solve.Memory h = tt
making_tells g blocks (solve.Missing number) h = absurd h
making_tells g blocks solve.TooDeep h = h
