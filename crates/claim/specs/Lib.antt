-- Demand 3 at the entry points.
pub mod Histories
pub mod Claim
