pub mod passed
pub mod TransferLemmas
pub mod StepsLemmas
pub mod RecordLemmas
pub mod ReadingLemmas
