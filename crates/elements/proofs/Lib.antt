pub mod Steps
pub mod Stands
pub mod Looks
