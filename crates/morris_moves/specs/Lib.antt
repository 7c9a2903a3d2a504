pub mod Rules
pub mod Order
pub mod Backward
pub mod Listing
pub mod Values
pub mod MoveText
pub mod Images
