pub mod Script
pub mod TraceOutput
pub mod TraceOutcome
pub mod Progress
pub mod Words
