pub mod Commands
pub mod Text
pub mod Reading
pub mod Seen
pub mod Writing
