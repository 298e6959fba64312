pub mod count
pub mod history
pub mod memory
