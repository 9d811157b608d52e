pub mod Parts
pub mod Missing
pub mod Losing
