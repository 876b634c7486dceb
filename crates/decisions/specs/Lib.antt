pub mod Cases
pub mod Climbing
pub mod Standing
pub mod Turns
