pub mod Batches
pub mod Lines
pub mod Verdicts
pub mod Making
pub mod Rounds
pub mod SlowLines
pub mod inner
