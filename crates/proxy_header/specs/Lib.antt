pub mod Block
pub mod HeaderReading
pub mod Laws
pub mod Line
pub mod HeaderWriting
