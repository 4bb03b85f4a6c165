pub mod Steps
pub mod Packs
