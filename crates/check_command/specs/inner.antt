-- What proofs cite, and no public contract.
pub mod Answers
