pub mod Joined
pub mod Numbers
pub mod Classes
pub mod Laws
pub mod inner
