-- What the contracts of `word` cite.
pub mod Place
pub mod Ranges
pub mod Examples
