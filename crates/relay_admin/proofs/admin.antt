pub mod CommandLemmas
pub mod LaterLemmas
pub mod OneDialogue
pub mod OrderLemmas
pub mod Refusals
pub mod ShownLines
