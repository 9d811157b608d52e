pub mod SlotLaws
pub mod Next
