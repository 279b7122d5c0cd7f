pub mod Begins
pub mod Depth
pub mod Printed
