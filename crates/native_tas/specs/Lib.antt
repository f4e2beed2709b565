pub mod Driver
pub mod DriverRelation
pub mod Examples
pub mod Native
pub mod Program
pub mod Relation
pub mod Table
