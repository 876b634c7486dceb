-- What the contracts of private functions cite.
pub mod Verdicts
pub mod Often
pub mod Spread
pub mod Classes
pub mod Plans
pub mod Searches
pub mod Cases
pub mod Outcomes
pub mod Reports
pub mod Written
pub mod Laws
pub mod Batches
