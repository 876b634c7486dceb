pub mod CycleLemmas
pub mod LeftLemmas
pub mod ListLemmas
mod SightLemmas
pub mod WordLemmas
pub mod ClassLemmas
pub mod PointLemmas
