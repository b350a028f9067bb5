pub mod Walk
pub mod Ends
pub mod Shown
pub mod Whole
pub mod Agree
pub mod There
pub mod Readers
