pub mod Parts
pub mod Numbers
mod Appending
pub mod Buffers
