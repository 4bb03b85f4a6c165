pub mod Carried
pub mod Messages
