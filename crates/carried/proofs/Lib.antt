pub mod Numbers
pub mod PartLaws
pub mod Places
pub mod Refusals
pub mod Served
pub mod Withins
