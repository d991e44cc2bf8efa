pub mod Numbers
pub mod Printed
mod Cutting
