pub mod EntryText
pub mod OperationText
pub mod Pages
