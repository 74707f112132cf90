pub mod PassingLemmas
pub mod AcceptTraceLemmas
pub mod LawsLemmas
pub mod PassingLawsLemmas
