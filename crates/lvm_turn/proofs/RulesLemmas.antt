pub mod Growing
pub mod Rules
