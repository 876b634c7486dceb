-- What the contracts of private functions cite.
pub mod Drafted
pub mod LineRead
pub mod LinesRead
pub mod Loops
pub mod NewNames
pub mod Numbered
pub mod OneLine
pub mod Shown
pub mod Stated
