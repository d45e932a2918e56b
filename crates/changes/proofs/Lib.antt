pub mod Changes
pub mod Laws
pub mod Applying
