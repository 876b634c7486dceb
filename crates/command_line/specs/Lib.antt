pub mod Numbers
pub mod HoldLists
pub mod Table
pub mod CommandLine
pub mod Refusals
pub mod Laws
pub mod inner
