mod JoinLemmas
mod OutputLemmas
pub mod LineLemmas
mod SharedCrosses
