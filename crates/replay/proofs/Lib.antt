-- Laws that the proofs of several functions cite: values as they are written, tables that follow the model, and demand 3 of the answers.
pub mod Written
pub mod Follows
pub mod Claimed
