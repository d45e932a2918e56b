-- Laws of reading a text.
pub mod Reading
