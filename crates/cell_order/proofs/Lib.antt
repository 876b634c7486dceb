pub mod LineLemmas
pub mod MarkLemmas
pub mod NameLemmas
pub mod GivenLemmas
pub mod WholeLemmas
pub mod OrderedLemmas
pub mod OneOrder
