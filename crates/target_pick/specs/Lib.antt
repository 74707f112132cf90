pub mod Health
pub mod Laws
pub mod Pick
pub mod Seen
pub mod Source
pub mod Tried
pub mod TurnTime
