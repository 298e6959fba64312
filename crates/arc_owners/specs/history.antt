pub mod Agreement
pub mod Histories
pub mod Laws
pub mod Machine
pub mod Worlds
