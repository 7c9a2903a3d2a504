-- Lemmas on the definitions of this crate.
pub mod BuildLaws
