pub mod Charting
pub mod Listing
pub mod Model
pub mod Modelling
