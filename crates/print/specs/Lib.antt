-- What printing promises.
pub mod Promise
