pub mod FitParts
pub mod Examples
pub mod QuestionExamples
pub mod Translated
pub mod CounterExamples
pub mod UnaskedExample
