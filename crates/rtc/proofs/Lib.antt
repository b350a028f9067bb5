pub mod Back
pub mod Readings
pub mod Same
