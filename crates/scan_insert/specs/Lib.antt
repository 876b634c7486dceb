pub mod Chains
pub mod Scan
pub mod Names
pub mod Scanned
pub mod Laws
pub mod Named
pub mod inner
