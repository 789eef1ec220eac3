pub mod Examples
pub mod Greatest
pub mod Laws
pub mod Nine
pub mod Onward
pub mod Ranks
pub mod Sheet
