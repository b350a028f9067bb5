-- A table of lent bytes that is a list store: its places, what it stands for, and what the calls leave of it.
pub mod Layout
pub mod Limits
pub mod Held
pub mod Left
pub mod Laws
pub mod Examples
