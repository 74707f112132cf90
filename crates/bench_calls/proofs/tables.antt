pub mod NoTimers
