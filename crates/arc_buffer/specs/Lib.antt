pub mod Slice
pub mod Text
pub mod Laws
pub mod Buffers
pub mod Printed
