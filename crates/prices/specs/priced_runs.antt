pub mod PricedRun
pub mod InPlace
