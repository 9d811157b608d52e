pub mod NoteTies
pub mod MayBegin
pub mod StatusTies
