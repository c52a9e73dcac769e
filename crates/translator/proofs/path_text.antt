pub mod RowPuts
