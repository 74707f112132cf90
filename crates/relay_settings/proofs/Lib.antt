pub mod OneByOne
pub mod ConvertedLemmas
pub mod NamesLemmas
pub mod ToldLemmas
