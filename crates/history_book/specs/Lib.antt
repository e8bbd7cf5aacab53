pub mod Reports
pub mod ReportTexts
pub mod ReportLines
pub mod Judging
pub mod Sweeps
