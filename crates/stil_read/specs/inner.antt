pub mod Shown
pub mod Whole
pub mod Signals
pub mod Assigned
pub mod Items
pub mod Written
pub mod Skips
pub mod Grammar
