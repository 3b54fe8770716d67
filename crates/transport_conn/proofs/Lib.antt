pub mod Carried
pub mod DeviceEnd
pub mod ClientEnd
pub mod Closing
pub mod Runs
pub mod Numbers
pub mod Counting
pub mod Carrying
