pub mod Into
pub mod Filling
pub mod From
pub mod FromSteps
pub mod Bundle
pub mod Entering
pub mod Causes
