pub mod Builds
pub mod Limited
pub mod Legs
pub mod Keeps
