pub mod RecordLemmas
pub mod NumNoteLemmas
pub mod SlotsLemmas
