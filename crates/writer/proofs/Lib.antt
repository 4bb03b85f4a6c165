pub mod Puts
pub mod Tables
pub mod Nests
