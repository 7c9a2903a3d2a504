-- Lemmas on the definitions of this crate.
pub mod NearLaws
pub mod FaultLaws
pub mod OrderLaws
pub mod BundleLaws
pub mod LengthLaws
pub mod LineLaws
pub mod CountedLaws
pub mod SpeakLaws
