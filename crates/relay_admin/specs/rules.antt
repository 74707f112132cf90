pub mod Addr
pub mod Fault
pub mod Grammar
pub mod Reading
pub mod Verdict
