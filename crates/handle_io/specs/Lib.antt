pub mod Answers
pub mod Kinds
pub mod Reader
pub mod Writer
