pub mod passed
pub mod FactsLemmas
pub mod LogLemmas
pub mod LegalLemmas
pub mod LawsLemmas
pub mod FrontsLemmas
