pub mod ScriptLemmas
pub mod EventLemmas
pub mod ProgressLemmas
pub mod TextLemmas
pub mod TraceLemmas
pub mod Words
