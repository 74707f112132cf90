pub mod BucketLemmas
pub mod CauseLemmas
pub mod TurnLemmas
