-- What this crate's own proofs cite, and no public contract.
pub mod Levels
pub mod Points
pub mod Reach
pub mod Steps
pub mod Stored
