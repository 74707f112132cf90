pub mod Laws
pub mod ServeFault
pub mod TextReading
pub mod admin
pub mod rules
pub mod Words
