pub mod Laws
pub mod Meaning
pub mod Work
