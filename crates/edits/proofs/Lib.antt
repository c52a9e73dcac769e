pub mod PatchLoops
