pub mod Entries
pub mod Laws
pub mod Meaning
pub mod Sides
pub mod Work
