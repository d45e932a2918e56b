-- Laws of printing, and of how long a printed line is.
pub mod Printing
pub mod Lengths
