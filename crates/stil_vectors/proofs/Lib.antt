mod CharLemmas
mod CallLemmas
mod VectorLemmas
pub mod FitLemmas
mod WidthLemmas
pub mod TestLemmas
mod PlayLemmas
