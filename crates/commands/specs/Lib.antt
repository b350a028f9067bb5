-- The commands, loads and resets of the device that an image stands for.
pub mod Calls
pub mod Laws
pub mod Taken
