pub mod Storing
pub mod Leading
pub mod Steps
