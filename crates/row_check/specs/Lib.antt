pub mod Promise
pub mod Tests
pub mod Handed
pub mod Tight
