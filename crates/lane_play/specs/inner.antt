-- What the contracts of private functions cite.
pub mod Bits
pub mod Lanes
pub mod Spans
pub mod Verdicts
pub mod Counts
pub mod Shifts
pub mod Steps
pub mod Apart
