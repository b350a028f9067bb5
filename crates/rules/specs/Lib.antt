-- What the contracts of `rules` cite.
pub mod Verdicts
pub mod Numbers
pub mod Entries
pub mod Laws
