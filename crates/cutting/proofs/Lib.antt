pub mod Cuts
pub mod Feeds
pub mod Counts
