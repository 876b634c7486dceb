pub mod AskLemmas
pub mod Exclusive
pub mod OrderLemmas
