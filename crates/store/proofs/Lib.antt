pub mod Pieces
pub mod Replacing
pub mod FlatArray
pub mod GapArray
