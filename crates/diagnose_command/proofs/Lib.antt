pub mod DiagnoseLemmas
pub mod NearestLemmas
pub mod Exclusive
