pub mod Laying
pub mod MadeSoFar
