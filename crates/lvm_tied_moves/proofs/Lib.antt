pub mod SoundLemmas
pub mod ViewLemmas
pub mod ShelfLemmas
pub mod TiedLemmas
