pub mod Promise
pub mod Steps
pub mod Settled
pub mod Paid
