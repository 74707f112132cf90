pub mod Ending
pub mod Given
pub mod Printed
pub mod Words
