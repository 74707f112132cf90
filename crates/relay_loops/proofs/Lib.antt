pub mod ArmedLemmas
pub mod RequestsLemmas
pub mod SetUpLemmas
