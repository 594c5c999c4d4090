pub mod Faults
pub mod Meaning
pub mod Clauses
pub mod Standing
