pub mod Keeping
pub mod Tapes
