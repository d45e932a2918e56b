-- What hallscore's functions promise.
pub mod Promise
