pub mod PassLaws
pub mod VolumeLaws
