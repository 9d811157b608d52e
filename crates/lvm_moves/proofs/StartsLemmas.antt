pub mod Firsts
mod Within
