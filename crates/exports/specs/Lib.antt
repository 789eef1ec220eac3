pub mod Boundary
pub mod Meaning
