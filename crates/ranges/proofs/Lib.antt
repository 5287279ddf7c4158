pub mod Order
pub mod Places
pub mod Lookups
pub mod Sharing
pub mod Refusing
pub mod Placing
mod Shifting
pub mod Fronts
pub mod Covering
