pub mod Time
pub mod Rate
pub mod Mode
pub mod HostName
pub mod Ip
pub mod Addr
pub mod Laws
