pub mod PrepareLaws
pub mod SearchLaws
pub mod SummaryLaws
pub mod Theorems
