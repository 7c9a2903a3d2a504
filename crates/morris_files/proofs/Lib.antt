pub mod WholeLaws
pub mod KeptLaws
pub mod HeaderLaws
mod LineLaws
