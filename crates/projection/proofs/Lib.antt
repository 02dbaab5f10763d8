pub mod FlowLaws
pub mod ProjectionLaws
