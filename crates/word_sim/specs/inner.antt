-- What the proofs of this crate need and no caller has to read.
pub mod Groups
pub mod Packed
pub mod Differences
pub mod Found
pub mod Simulating
pub mod Leaving
