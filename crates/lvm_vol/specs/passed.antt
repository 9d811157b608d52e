pub mod Num
pub mod NumDescriptorMode
