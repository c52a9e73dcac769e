pub mod HandlerLoops
