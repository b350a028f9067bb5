-- What the contracts of `record` cite.
pub mod Data
pub mod Fronts
pub mod Entries
pub mod Written
pub mod RoundTrip
