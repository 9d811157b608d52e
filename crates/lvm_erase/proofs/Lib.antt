mod ErasingLemmas
mod ShowingLemmas
