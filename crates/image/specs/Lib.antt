-- The image of a controller: its places, what it stands for, and what writing a part of it leaves.
pub mod Layout
pub mod Parts
pub mod Limits
pub mod Asked
pub mod Laws
pub mod Examples
