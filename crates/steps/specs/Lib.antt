-- The timer's look and the client's two steps on an image.
pub mod Steps
pub mod Effects
