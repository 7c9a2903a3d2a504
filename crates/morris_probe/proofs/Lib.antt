-- Lemmas on the definitions of this crate.
pub mod ProbingLaws
pub mod Listed
pub mod BestLaws
pub mod SomeBest
pub mod ReportLaws
pub mod LengthLaws
