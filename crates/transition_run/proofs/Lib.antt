pub mod FileLemmas
pub mod FormLemmas
pub mod RoundLemmas
pub mod RunLemmas
pub mod SaidLemmas
pub mod TreesAlone
pub mod TruthLemmas
