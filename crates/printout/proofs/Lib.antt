pub mod AnswerLaws
pub mod PrintoutLaws
pub mod LongInputs
pub mod Rulesets
