pub mod Answer
pub mod Client
pub mod Desk
pub mod Server
