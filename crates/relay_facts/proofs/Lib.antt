pub mod FileFaults
pub mod FiguresLemmas
pub mod HealthLemmas
pub mod KnownLemmas
pub mod NamedLemmas
pub mod SourceLemmas
pub mod SteeringLemmas
pub mod TargetsLemmas
