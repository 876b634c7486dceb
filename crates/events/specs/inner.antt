-- What the proofs of this crate need and no caller has to read.
pub mod Bitmaps
pub mod Placing
pub mod Running
pub mod Driving
