pub mod TokenLemmas
pub mod ConnTableLemmas
pub mod KeyLemmas
pub mod SlotLemmas
pub mod StepLemmas
pub mod LawLemmas
