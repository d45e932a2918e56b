-- Laws of hallscore, and worked examples.
pub mod Books
pub mod Examples
pub mod Running
pub mod Whole
