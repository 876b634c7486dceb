-- What the contracts of private functions cite.
pub mod Trials
pub mod Walking
pub mod Totals
pub mod Reading
pub mod Checking
