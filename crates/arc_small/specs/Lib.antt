pub mod Inline
pub mod Lends
pub mod Small
