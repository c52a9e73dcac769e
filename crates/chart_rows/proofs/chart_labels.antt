pub mod ReadyLaws
pub mod NodeSteps
pub mod LabelSteps
pub mod LabelKinds
