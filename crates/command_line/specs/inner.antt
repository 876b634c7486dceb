pub mod Arguments
pub mod Errors
pub mod Files
pub mod Held
pub mod Padding
pub mod Searches
