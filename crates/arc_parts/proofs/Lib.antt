pub mod NativeWindows
pub mod Windows
pub mod Raws
pub mod GivenParts
pub mod Held
pub mod Attempts
pub mod More
