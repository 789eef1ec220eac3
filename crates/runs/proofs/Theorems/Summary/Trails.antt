pub mod AnyRun
pub mod Kinds
pub mod Laws
pub mod OneRun
