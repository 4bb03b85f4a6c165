pub mod Fills
pub mod Settles
