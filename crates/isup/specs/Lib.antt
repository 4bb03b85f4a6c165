pub mod Messages
pub mod Writes
