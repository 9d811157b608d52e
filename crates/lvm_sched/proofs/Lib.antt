pub mod ReadsLemmas
