-- The definition of hallscore's text.
pub mod Scan
pub mod Text
