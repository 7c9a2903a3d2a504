-- What the contracts of this crate speak of.
pub mod Exact
pub mod Ranges
pub mod Solving
pub mod Making
pub mod Draws
pub mod Tickets
pub mod TicketSteps
pub mod Working
