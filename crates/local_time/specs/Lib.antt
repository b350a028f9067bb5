-- What a local time stands for, and what holds of it.
pub mod Meaning
pub mod Laws
