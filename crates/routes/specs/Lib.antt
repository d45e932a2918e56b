pub mod Route
pub mod Sets
pub mod Stored
pub mod Equations
pub mod Walk
