pub mod Examples
pub mod Filed
pub mod Laws
pub mod Spelled
