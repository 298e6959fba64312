pub mod Steps
pub mod Cuts
pub mod Borrow
pub mod Ends
pub mod Kept
