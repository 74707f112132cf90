mod AnsweringLemmas
mod DeliveryLemmas
mod LawsLemmas
mod RoundLemmas
mod SessionEnds
mod WholeWriteLemmas
