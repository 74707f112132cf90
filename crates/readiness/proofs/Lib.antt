pub mod AlarmLemmas
pub mod BatchLemmas
pub mod ResumingLemmas
pub mod LateLemmas
pub mod TurnLemmas
pub mod TellingLemmas
pub mod LendLemmas
