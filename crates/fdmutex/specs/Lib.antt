pub mod Deeds
pub mod Refusal
pub mod Heard
pub mod Did
pub mod HalfTaken
