pub mod Delivered
pub mod Judge
pub mod Levels
pub mod Ranking
pub mod Sheets
