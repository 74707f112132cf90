pub mod Token
pub mod ConnTable
pub mod Refusals
pub mod Laws
pub mod Slots
