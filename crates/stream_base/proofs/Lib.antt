pub mod AttemptLemmas
pub mod DecimalLemmas
pub mod KnownBytesLemmas
pub mod LineLemmas
pub mod LineReaderLemmas
pub mod Words
