pub mod ImageBytes
pub mod TranslatorContracts
pub mod LabelBytes
pub mod LabelContracts
pub mod NodeBytes
pub mod RowBytes
