pub mod Texts
pub mod Numbers
pub mod Reading
pub mod Strobes
pub mod Laws
pub mod inner
