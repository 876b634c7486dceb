pub mod Checkers
pub mod Ends
pub mod Firsts
pub mod Scanning
pub mod Sights
pub mod Strays
pub mod Texts
pub mod inner
