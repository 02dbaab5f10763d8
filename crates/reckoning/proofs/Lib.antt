pub mod AdvanceLaws
pub mod StepLaws
