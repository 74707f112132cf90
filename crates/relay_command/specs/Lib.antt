pub mod Descriptors
pub mod ExitStatus
pub mod CommandLine
pub mod SoftLimit
