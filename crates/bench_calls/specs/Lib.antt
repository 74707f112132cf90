pub mod Numbers
pub mod lock_word
pub mod tables
