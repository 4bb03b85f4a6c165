pub mod Optional
pub mod Assembled
