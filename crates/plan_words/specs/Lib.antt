pub mod Lines
pub mod Forms
pub mod Named
pub mod Plans
