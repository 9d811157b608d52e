pub mod Worked
pub mod Shelf
pub mod Flights
pub mod Records
