pub mod Entry
pub mod Laws
pub mod Limits
pub mod Paced
pub mod Source
pub mod Sources
