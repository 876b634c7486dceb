pub mod NameLemmas
pub mod TableTexts
pub mod ReportTexts
pub mod SeenLemmas
pub mod SlowFaultTexts
pub mod EvidenceLines
mod FirstFrames
mod WriteLemmas
