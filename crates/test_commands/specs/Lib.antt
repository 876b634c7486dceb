pub mod Plays
pub mod ChainTests
pub mod Grades
pub mod inner
