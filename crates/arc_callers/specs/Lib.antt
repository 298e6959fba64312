pub mod Frames
pub mod Queue
