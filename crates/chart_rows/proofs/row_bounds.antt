pub mod BoundLaws
pub mod BoundSteps
