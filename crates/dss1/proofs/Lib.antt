pub mod Shorts
pub mod Writings
