pub mod Exclusive
pub mod ScanLemmas
pub mod CheckLemmas
pub mod Zipped
pub mod Endings
pub mod Delivering
pub mod SweepLemmas
