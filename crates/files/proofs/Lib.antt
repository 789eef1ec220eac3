pub mod Tags
pub mod CheckLaws
pub mod PlainLaws
pub mod AccessLaws
pub mod LookLaws
