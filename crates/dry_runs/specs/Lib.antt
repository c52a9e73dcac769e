pub mod DryRun
