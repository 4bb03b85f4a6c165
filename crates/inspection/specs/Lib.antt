pub mod Header
pub mod Found
pub mod Tally
