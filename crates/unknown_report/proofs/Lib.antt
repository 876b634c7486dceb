pub mod NumberTexts
pub mod CountTexts
pub mod UnknownTexts
pub mod EndedLines
pub mod ReportTexts
mod WriteLemmas
