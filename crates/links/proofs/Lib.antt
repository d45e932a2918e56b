pub mod Flat
pub mod Masked
pub mod Gathering
pub mod Masking
