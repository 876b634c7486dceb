pub mod Detections
pub mod Shown
pub mod Laws
pub mod inner
