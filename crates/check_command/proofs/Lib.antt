pub mod Exclusive
pub mod FiveTexts
pub mod Passing
pub mod Words
mod Checked
