mod RulesLemmas
pub mod StepsLemmas
pub mod ViewsLemmas
pub mod CallsLemmas
