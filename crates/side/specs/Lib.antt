pub mod Table
pub mod Limits
pub mod Contents
pub mod Signals
pub mod Meaning
pub mod Steps
