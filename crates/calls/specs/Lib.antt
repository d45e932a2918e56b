-- Definitions that the contracts cite. Assumes nothing.
pub mod Kinds
pub mod Answers
pub mod Alike
pub mod Lists
pub mod Rooms
pub mod Places
