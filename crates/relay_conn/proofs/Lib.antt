pub mod ConnectionLemmas
pub mod DeadlinesLemmas
pub mod DrainedLemmas
pub mod HeadLemmas
pub mod RelayingLemmas
