pub mod RowsLemmas
pub mod SeenLemmas
pub mod ToldLemmas
