pub mod JsonLemmas
pub mod RunLemmas
