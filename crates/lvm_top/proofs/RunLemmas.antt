mod Firsts
pub mod Stopping
