pub mod LaterTies
pub mod Datas
pub mod CopyReads
pub mod CopyWrites
