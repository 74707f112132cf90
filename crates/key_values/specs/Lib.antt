pub mod Command
pub mod Store
