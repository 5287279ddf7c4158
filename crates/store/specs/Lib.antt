pub mod Texts
pub mod Gaps
pub mod Stores
pub mod Lengths
pub mod Replacements
