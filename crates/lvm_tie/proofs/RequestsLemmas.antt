pub mod SubmitTies
pub mod AdmitTies
pub mod PinTies
