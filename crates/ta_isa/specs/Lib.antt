pub mod InstructionTable
pub mod Spelling
pub mod Reading
pub mod Header
pub mod Boots
pub mod Examples
