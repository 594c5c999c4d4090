pub mod Tables
pub mod Changing
