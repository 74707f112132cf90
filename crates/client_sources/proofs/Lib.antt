pub mod Admitted
pub mod Counted
pub mod Ended
pub mod Places
pub mod Sums
