pub mod HoldLemmas
pub mod Cells
pub mod RowLemmas
pub mod StepLemmas
pub mod RunLemmas
pub mod Single
pub mod LineLemmas
pub mod OrderLemmas
