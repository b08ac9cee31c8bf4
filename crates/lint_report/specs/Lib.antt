pub mod RefusalText
pub mod StepText
pub mod Finding
pub mod QuestionPlaces
pub mod Text
pub mod Worked
pub mod inner
