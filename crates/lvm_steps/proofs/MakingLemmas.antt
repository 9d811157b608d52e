pub mod NoVolumes
pub mod Making
