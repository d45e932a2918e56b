pub mod Tests
pub mod NoLinks
pub mod WorkOut
