-- What this crate's own proofs cite, and no public contract.
pub mod Pending
pub mod Parts
