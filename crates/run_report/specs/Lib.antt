pub mod Strobes
pub mod Outcomes
pub mod Times
pub mod Heads
pub mod Subjects
pub mod inner
