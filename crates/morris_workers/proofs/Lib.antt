-- Lemmas on the definitions of this crate.
pub mod Exact
pub mod Faults
pub mod TicketSums
pub mod DrawSteps
pub mod SeatSplits
pub mod SeatJoins
pub mod SeatLists
pub mod TicketCounts
pub mod InOrder
pub mod Firsts
pub mod Backs
