pub mod Sets
pub mod Boards
pub mod Positions
pub mod Symmetries
pub mod BoardLaws
pub mod SymmetryLaws
pub mod Streams
pub mod Printers
