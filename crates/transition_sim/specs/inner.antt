-- What the proofs of this crate need and no caller has to read.
pub mod Launches
pub mod Tasks
