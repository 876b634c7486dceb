pub mod BatchLemmas
pub mod CubeLemmas
pub mod EndLemmas
pub mod TestLemmas
pub mod LeafLemmas
pub mod RoundLemmas
mod LineLemmas
mod LineTexts
