pub mod ReadFrame
