pub mod Sub
pub mod Printed
