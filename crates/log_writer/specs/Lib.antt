pub mod Batch
pub mod LogFile
pub mod Run
pub mod Thread
pub mod Turn
