pub mod FileMapLemmas
pub mod StreamLemmas
pub mod ReadLemmas
