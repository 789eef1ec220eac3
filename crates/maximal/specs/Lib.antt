pub mod Places
pub mod Model
pub mod Masks
pub mod Collected
pub mod Bits
pub mod Charting
pub mod Listing
pub mod Modelling
