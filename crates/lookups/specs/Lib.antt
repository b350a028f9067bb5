-- What the contracts of `lookups` cite.
pub mod Transitions
pub mod Shown
pub mod Laws
