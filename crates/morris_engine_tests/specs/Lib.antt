-- What the graphs of this crate are.
pub mod Samples
