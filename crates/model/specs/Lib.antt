pub mod SheetCalls
pub mod ListCalls
pub mod Calls
pub mod Steps
pub mod WorkedRuns
