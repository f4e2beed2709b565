pub mod SoundRecords
pub mod RecordLaws
pub mod GrammarLaws
pub mod Lengths
pub mod Payload
pub mod Registers
pub mod Again
pub mod Whole
pub mod Puts
mod Taken
mod Places
