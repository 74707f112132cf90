pub mod Attempt
pub mod Decimal
pub mod Fronts
pub mod Laws
pub mod LineReader
pub mod Lines
pub mod ReaderSource
pub mod WriterSink
