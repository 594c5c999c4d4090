pub mod Nodes
pub mod Links
pub mod Meanings
pub mod Outcomes
