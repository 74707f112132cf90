pub mod Accepts
pub mod Addresses
pub mod Drops
pub mod Hosts
pub mod LineLooks
pub mod Polled
pub mod Sending
