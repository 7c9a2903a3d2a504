pub mod FillLaws
pub mod LineLaws
pub mod FromLaws
pub mod SurveyLaws
pub mod CauseLaws
