pub mod Typing
pub mod Shown
pub mod Numerals
pub mod Script
pub mod Sentences
pub mod Errors
