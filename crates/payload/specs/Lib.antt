pub mod Spelling
pub mod Faults
pub mod Asked
pub mod Holding
pub mod Telling
