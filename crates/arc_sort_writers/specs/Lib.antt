pub mod SortParts
pub mod CutParts
pub mod Growth
pub mod NativeWriters
pub mod Lends
