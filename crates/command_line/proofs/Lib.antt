pub mod NumberLemmas
pub mod TableLemmas
pub mod LineLemmas
pub mod HoldLemmas
pub mod FileLemmas
