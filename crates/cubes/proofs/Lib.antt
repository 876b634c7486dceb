pub mod RowLemmas
pub mod MergeLemmas
pub mod FillLemmas
pub mod OpenLemmas
