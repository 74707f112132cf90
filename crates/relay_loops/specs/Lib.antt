pub mod LoopTask
pub mod Requests
pub mod SetUp
pub mod Taken
pub mod Turns
