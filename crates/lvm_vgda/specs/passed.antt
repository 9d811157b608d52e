pub mod Fields
pub mod FieldsFaultFault
