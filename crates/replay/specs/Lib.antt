-- What a replayed history answers, and demand 3 about these answers.
pub mod Replays
pub mod Claim
pub mod Tables
