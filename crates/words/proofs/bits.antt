pub mod BitLaws
pub mod MaskLaws
