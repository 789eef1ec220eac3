pub mod Computed
pub mod Filed
pub mod Maximal
