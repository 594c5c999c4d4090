pub mod Laying
pub mod Putting
pub mod Counting
pub mod Sparsest
pub mod Lowered
pub mod Kept
