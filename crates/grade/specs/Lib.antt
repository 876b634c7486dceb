pub mod Grades
pub mod Patterns
pub mod Laws
pub mod Agreement
pub mod inner
