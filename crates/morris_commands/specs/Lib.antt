pub mod Look
pub mod Deepest
pub mod Build
pub mod Stats
pub mod Verify
pub mod Probe
