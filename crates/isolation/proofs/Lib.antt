pub mod CallsLogged
pub mod FedAlong
pub mod OwnLogs
pub mod SessionLogs
