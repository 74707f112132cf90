pub mod Answering
pub mod CopyTrace
pub mod Devices
pub mod FdGate
pub mod Laws
pub mod Serving
pub mod Worker
