pub mod Sites
pub mod Grades
pub mod Truth
pub mod UnknownNames
pub mod Once
pub mod Passing
pub mod Agreeing
