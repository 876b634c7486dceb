pub mod Runs
pub mod Steps
pub mod Answers
pub mod Designs
pub mod Ordering
pub mod inner
