pub mod DiskRows
pub mod SurveyRows
