pub mod KnownParts
pub mod Numbers
pub mod Moved
pub mod Above
pub mod Tells
pub mod Soundness
pub mod Making
