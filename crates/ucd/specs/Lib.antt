pub mod Bytes
pub mod Lines
pub mod Stretches
pub mod Points
pub mod Entries
pub mod Files
pub mod Faults
pub mod Written
