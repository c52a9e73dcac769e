pub mod NodeRows
pub mod PathContracts
pub mod ChartContracts
