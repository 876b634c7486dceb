pub mod Declined
pub mod Pieces
pub mod Held
pub mod Swept
pub mod Counted
