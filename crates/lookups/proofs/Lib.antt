-- Laws that the proofs of several functions cite, and the laws of what is shown.
pub mod Entries
pub mod Maps
pub mod Soonest
pub mod Places
pub mod Back
pub mod Views
pub mod Names
pub mod Walked
pub mod Owned
