pub mod Promise
pub mod Masks
pub mod Picked
pub mod Stops
pub mod Work
pub mod Costs
