pub mod BuildLaws
mod OwnLaws
mod AloneLaws
pub mod BeforeLaws
pub mod DeepestLaws
pub mod DeepLaws
pub mod LengthLaws
pub mod EntryOrder
