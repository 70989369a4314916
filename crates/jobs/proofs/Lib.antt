pub mod Splitting
pub mod CardElements
pub mod Printing
pub mod LineRuns
pub mod Levels
pub mod CutJobs
pub mod JobLaws
pub mod Tellings
