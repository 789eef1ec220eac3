pub mod Balanced
pub mod Exact
pub mod Frames
pub mod Places
pub mod Trails
