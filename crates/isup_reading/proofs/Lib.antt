pub mod Within
pub mod Numbers
pub mod Setups
pub mod Wholes
