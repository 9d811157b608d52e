pub mod VaryingOn
pub mod Following
