pub mod Pointers
pub mod Lengths
pub mod Readings
pub mod Refusals
pub mod Shorts
pub mod FarEnd
pub mod Reached
pub mod Laws
