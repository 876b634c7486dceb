pub mod ReadLemmas
pub mod WriteLemmas
pub mod PutLemmas
pub mod Exclusive
pub mod CommandLemmas
pub mod NameLemmas
pub mod Saying
