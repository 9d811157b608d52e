pub mod NoMore
pub mod Finding
pub mod HoldingStatus
pub mod HoldingDescriptor
