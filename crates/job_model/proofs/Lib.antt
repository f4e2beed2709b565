pub mod JobSteps
pub mod MachineRuns
pub mod Programs
pub mod TakenAnswers
pub mod SeenCancel
pub mod Ranges
pub mod FittingRequests
