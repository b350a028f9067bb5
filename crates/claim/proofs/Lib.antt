-- Demand 3 at the entry points.
pub mod Left
pub mod Claim
pub mod Kept
