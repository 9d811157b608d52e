pub mod ChoosingLemmas
pub mod RebuildingLemmas
pub mod WorkedLemmas
pub mod EndsLemmas
