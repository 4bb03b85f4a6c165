pub mod Backs
pub mod Aparts
