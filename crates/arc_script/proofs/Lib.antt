pub mod Lines
pub mod Empty
pub mod Splits
pub mod States
pub mod Underway
pub mod Going
pub mod Arguments
pub mod Devices
pub mod Rows
pub mod Layouts
mod Storms
