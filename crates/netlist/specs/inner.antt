-- What this crate's own proofs cite, and no public contract.
pub mod Kept
pub mod Placed
pub mod Readings
pub mod Settling
pub mod Sorting
