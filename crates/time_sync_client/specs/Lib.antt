-- What the client's records stand for, and what holds of it.
pub mod Meaning
pub mod Laws
