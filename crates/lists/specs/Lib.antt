pub mod ReadBack
pub mod Apart
