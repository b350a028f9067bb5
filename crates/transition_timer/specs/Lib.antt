-- What the contracts of `transition_timer` cite, and what holds of the timer.
pub mod Meaning
pub mod Laws
