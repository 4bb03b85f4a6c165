pub mod Hearing
pub mod Legs
pub mod Telling
pub mod Laws
