pub mod Hearing
pub mod Waits
