pub mod passed
pub mod JudgedLemmas
pub mod ShownLemmas
pub mod LogLemmas
pub mod MadeLemmas
pub mod Keeping
pub mod StepsLemmas
pub mod NewGroupLemmas
