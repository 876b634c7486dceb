pub mod Owns
pub mod Ends
pub mod Tests
pub mod Turns
pub mod Steps
pub mod Looked
pub mod Values
pub mod Bits
