-- What the clock's records stand for, and what holds of them.
pub mod Meaning
pub mod Laws
