pub mod Erasing
