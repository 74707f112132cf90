pub mod Complete
pub mod LineSteps
pub mod Lines
pub mod OneVerdict
pub mod Sound
