pub mod Testing
pub mod Handing
pub mod Walking
pub mod Balancing
pub mod Checked
pub mod Verdict
