pub mod WriteLemmas
pub mod AcceptLemmas
