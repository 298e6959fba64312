pub mod Ends
pub mod Encoded
pub mod Runs
