pub mod passed
pub mod CleanedLemmas
pub mod MomentsLemmas
pub mod QuietLemmas
pub mod RecoveredLemmas
