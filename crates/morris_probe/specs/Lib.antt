pub mod Probing
pub mod Best
pub mod Refusals
pub mod Lines
pub mod Reports
