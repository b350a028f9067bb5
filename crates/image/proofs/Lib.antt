pub mod Holds
pub mod Written
pub mod Outside
pub mod Back
pub mod Alone
pub mod New
