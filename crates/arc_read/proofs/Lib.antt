pub mod Cuts
pub mod Plains
pub mod Kept
