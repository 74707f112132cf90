pub mod Book
pub mod Conservation
