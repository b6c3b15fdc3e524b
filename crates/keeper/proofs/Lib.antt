pub mod OneCall
pub mod Runs
pub mod NeverThree
pub mod SealedAnswers
pub mod Behind
pub mod Twice
