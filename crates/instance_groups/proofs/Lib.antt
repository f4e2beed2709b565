pub mod FedAlong
pub mod GroupLogs
pub mod Logs
