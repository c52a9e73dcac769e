pub mod PieceCases
