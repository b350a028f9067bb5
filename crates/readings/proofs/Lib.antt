pub mod Answered
pub mod Copies
pub mod Whole
