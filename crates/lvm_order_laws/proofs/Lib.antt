pub mod AloneLemmas
