pub mod Healths
pub mod Loads
pub mod Owners
pub mod Picks
pub mod Shares
pub mod TakerLemmas
pub mod TriedLemmas
pub mod Turns
