pub mod FaultLemmas
pub mod HalfLemmas
