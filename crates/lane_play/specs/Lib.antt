pub mod Judged
pub mod Counted
pub mod inner
