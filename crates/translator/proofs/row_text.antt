pub mod NodePuts
