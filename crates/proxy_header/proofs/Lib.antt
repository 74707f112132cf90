pub mod Blocks
pub mod Ends
pub mod Fronts
pub mod Lines
pub mod OneAnswers
pub mod Stays
pub mod WrittenBlocks
pub mod WrittenLines
