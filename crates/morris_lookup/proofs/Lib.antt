-- Lemmas on the definitions of this crate.
pub mod ListLaws
pub mod StretchLaws
pub mod EntryLaws
pub mod OpeningLaws
pub mod FileLookups
pub mod PieceLaws
pub mod FileSetLaws
pub mod OutcomeLaws
pub mod PreparedLaws
pub mod FoundLaws
pub mod ViewLaws
pub mod ExactLaws
pub mod ListingLaws
pub mod LeadLaws
