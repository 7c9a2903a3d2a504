-- The blocks that workers make.
use Rattle.std.specs.Prelude.{◌≡◌, ◌⊎◌, ℕ, ◌+◌, ◌<◌, ◌≤◌, true, List, ◌++◌, length, map, slice_index_or, Result, Err, Vec, vec_len, MatchResult, IfOk, OnOk, IfErr, IsOkAnd}
use Rattle.std.specs.List.{All}
use Rattle.std.specs.declared.alloc.Global.{Global}
use Rattle.morris_wave.specs.Nets.{Net}
use Rattle.morris_wave.specs.Values.{IsTooDeep}
use Rattle.morris_wave.specs.Blocks.{Parts, BlockState}
use Rattle.morris_workers.specs.Tickets.{IsSeatOf, limit_of, numbers_of, all_numbers, has_ended}
use Rattle.morris_workers.specs.declared.tickets.Tickets.{Tickets}
use Rattle.morris_workers.specs.declared.tickets.TicketSeat.{TicketSeat}
use Rattle.morris_workers.specs.declared.fault.SolveFault.{SolveFault}
use Rattle.morris_workers.specs.declared.fault.SolveFault.TheVariants.{Workers, Blocks, Memory, Missing, TooDeep}

-- the cut is of this graph, lists have room for each of its nodes, and the tickets are for the
-- numbers of its blocks
pub record IsPlan (g : Net) (most : ℕ) (cut : Parts) (t : Tickets) : Type 0 where
  pub size : cut.size ≡ g.size
  pub short : cut.size ≤ most
  pub limit : limit_of t ≡ cut.blocks

-- the blocks stand in the order of their numbers, and the first has the number `start`
abbrev pub AreNumbered : ℕ → List BlockState → Type 0
AreNumbered start blocks = (k : ℕ) (d : BlockState) → k < length blocks → (slice_index_or blocks k d).number ≡ start + k

-- Why blocks aren't made: memory was refused, or the graph is too deep, and nothing else.
abbrev pub IsMakingFault : Net → SolveFault → Type 0
IsMakingFault g Workers = ⊥
IsMakingFault g Blocks = ⊥
IsMakingFault g Memory = Unit {0}
IsMakingFault g (Missing number) = ⊥
IsMakingFault g TooDeep = IsTooDeep g

-- the blocks of the numbers from the start up to, not including, the end, in this order, or why
-- they aren't made
abbrev pub IsShare : Net → ℕ → ℕ → Result (Vec BlockState Global) SolveFault → Type 0
IsShare g start end share = MatchResult share (λ made. (start + vec_len made ≡ end) × AreNumbered start made.items) (IsMakingFault g)

-- the numbers of these blocks, in the same order
abbrev pub block_numbers : List BlockState → List ℕ
block_numbers blocks = map (λ s. s.number) blocks

-- the blocks of the numbers that a seat of these tickets drew until none was left, in the order in
-- which it drew them, or why they aren't made
pub record AreDrawn (t : Tickets) (g : Net) (seat : TicketSeat) (drawn : Result (Vec BlockState Global) SolveFault) : Type 0 where
  pub of : IsSeatOf t seat
  pub numbers : IfOk drawn (λ made. block_numbers made.items ≡ numbers_of seat)
  pub ended : OnOk drawn (has_ended seat ≡ true)
  pub fault : IfErr drawn (IsMakingFault g)

-- the same of some seats, the first seat's blocks first
pub record AreAllDrawn (t : Tickets) (g : Net) (seats : List TicketSeat) (drawn : Result (Vec BlockState Global) SolveFault) : Type 0 where
  pub of : All (IsSeatOf t) seats
  pub numbers : IfOk drawn (λ made. block_numbers made.items ≡ all_numbers seats)
  pub ended : OnOk drawn (All (λ seat. has_ended seat ≡ true) seats)
  pub fault : IfErr drawn (IsMakingFault g)

-- the elements of two lists, or why there are none: a fault of either, or memory was refused
abbrev pub AreBoth : {X : Type 0} → Result (Vec X Global) SolveFault → Result (Vec X Global) SolveFault → Result (Vec X Global) SolveFault → Type 0
AreBoth first second both =
    MatchResult both (λ all. IsOkAnd first (λ xs. IsOkAnd second (λ ys. all.items ≡ xs.items ++ ys.items))) (λ fault. (fault ≡ Memory) ⊎ ((first ≡ Err fault) ⊎ (second ≡ Err fault)))
