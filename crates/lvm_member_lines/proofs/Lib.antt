pub mod ReducingLemmas
