-- What the contracts of `schedule_text` cite.
pub mod Texts
