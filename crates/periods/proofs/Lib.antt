pub mod EndsLaws
pub mod RunningLaws
pub mod IssuedLaws
pub mod TurnLaws
pub mod TogetherLaws
pub mod Rulesets
