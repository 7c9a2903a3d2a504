pub mod Parsed
pub mod Requests
pub mod ReadLaws
pub mod GivenLaws
pub mod ArgLaws
