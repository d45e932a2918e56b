-- Laws of what is read and what is written.
pub mod Filling
pub mod Written
