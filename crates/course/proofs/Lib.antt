pub mod Unions
pub mod Undone
pub mod Rows
pub mod Verdicts
pub mod Standing
pub mod Ends
pub mod Going
