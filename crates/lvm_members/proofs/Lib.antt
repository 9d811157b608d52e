pub mod passed
pub mod HoldingLemmas
pub mod PlanLemmas
pub mod RulesLemmas
pub mod SparesLemmas
pub mod WorkedLemmas
