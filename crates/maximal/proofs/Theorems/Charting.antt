pub mod Anew
pub mod Entering
pub mod Order
pub mod Slots
pub mod States
