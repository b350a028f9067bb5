-- Laws that the proofs of several functions cite.
pub mod Told
pub mod Verdicts
pub mod Stores
pub mod Means
