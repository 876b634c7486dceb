pub mod PlayLemmas
pub mod ChainTestLemmas
pub mod GradeLemmas
pub mod Exclusive
