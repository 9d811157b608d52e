pub mod Num
pub mod NumDescriptorMode
pub mod NumDescriptorPolicy
