-- What the contracts of `history` cite.
pub mod Calls
pub mod Shown
pub mod Laws
pub mod Examples
