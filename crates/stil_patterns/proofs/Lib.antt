mod NameLemmas
pub mod FileLemmas
mod WordLemmas
mod AddLemmas
pub mod BackLemmas
pub mod OnceLemmas
pub mod PickLemmas
mod ReadLemmas
mod SameLemmas
mod SizeLemmas
