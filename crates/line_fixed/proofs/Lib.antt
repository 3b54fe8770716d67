pub mod Answered
pub mod NewestFirst
pub mod Stories
pub mod Wholes
