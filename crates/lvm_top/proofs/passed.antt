pub mod GroupLines
pub mod Line
pub mod RangeLines
pub mod Tie
