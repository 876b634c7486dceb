pub mod Certificates
pub mod Laws
pub mod Words
pub mod inner
