pub mod Extend
pub mod Kept
pub mod Lends
pub mod Within
pub mod Moves
