pub mod Behind
pub mod LineStatus
pub mod ReadBack
