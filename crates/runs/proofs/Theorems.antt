pub mod Composing
pub mod Runs
pub mod Searching
pub mod Summary
pub mod Unwritten
pub mod Verdict
pub mod Watching
