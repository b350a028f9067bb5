-- Worked examples at the edges, section by section, each a table that is checked by computation.
pub mod Cases
pub mod Numbers
pub mod Rules
pub mod Bytes
pub mod Lookups
pub mod Store
pub mod Clock
pub mod Handler
pub mod Timer
pub mod Retries
pub mod Schedule
