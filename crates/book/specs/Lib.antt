pub mod Hall
pub mod Call
pub mod Book
pub mod Contract
pub mod Turned
pub mod Written
