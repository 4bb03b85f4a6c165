pub mod Dialling
pub mod Signals
