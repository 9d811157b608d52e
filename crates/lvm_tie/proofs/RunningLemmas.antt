pub mod Shapes
pub mod Shelves
