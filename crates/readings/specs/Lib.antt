-- The readings of the device that an image stands for.
pub mod Readings
pub mod Stored
pub mod There
