pub mod PartsOn
pub mod Roles
