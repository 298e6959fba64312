pub mod BoxPlaces
pub mod Boxes
pub mod Inners
pub mod LentSlices
pub mod LentValues
pub mod SoleBoxes
pub mod SoleCounts
