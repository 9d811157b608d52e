pub mod StatusBytesLemmas
pub mod Orders
pub mod PartsLemmas
pub mod PuttingLemmas
