pub mod Answering
pub mod WordsLaunched
pub mod LastTold
pub mod FrameLine
pub mod FrameWords
