pub mod Heads
pub mod Books
