pub mod Pointers
pub mod Reports
