pub mod Runs
pub mod Utf8Texts
pub mod Words
pub mod Points
pub mod Listing
