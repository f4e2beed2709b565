pub mod Examples
pub mod FaultPlan
pub mod MemSink
pub mod MemSource
pub mod Port
pub mod PortLaws
pub mod StdSink
pub mod StdSource
