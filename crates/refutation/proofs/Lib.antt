pub mod PairLemmas
pub mod Reached
pub mod Exciting
pub mod Allowing
pub mod Sweeping
pub mod ShutOff
pub mod Sound
