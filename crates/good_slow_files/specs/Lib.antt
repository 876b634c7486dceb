pub mod Theorem
pub mod GoodSlowFiles
pub mod Clauses
pub mod Checks
pub mod Laws
