pub mod Entries
pub mod Rows
pub mod Codings
pub mod ReadBack
