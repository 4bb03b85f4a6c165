pub mod Hex
pub mod Parts
