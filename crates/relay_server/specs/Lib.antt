pub mod Fault
pub mod Output
pub mod Server
pub mod Threads
