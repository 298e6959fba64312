pub mod Places
mod States
mod Done
mod Own
mod Stepped
mod Lie
mod Stays
mod Keeps
mod Puts
mod Right
