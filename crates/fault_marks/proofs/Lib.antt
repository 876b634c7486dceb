pub mod KeptLemmas
pub mod LineLemmas
pub mod MarkLemmas
