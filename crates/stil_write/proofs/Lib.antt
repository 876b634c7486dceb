mod LoopLemmas
mod PieceLemmas
mod FormLemmas
pub mod ItemLemmas
mod DistinctLemmas
mod ShiftLemmas
