pub mod Causes
pub mod Bearers
pub mod Numbers
