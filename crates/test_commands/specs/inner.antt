pub mod Trials
pub mod ChainTrials
pub mod GradeTrials
