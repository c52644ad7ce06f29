pub mod ReadingLines
pub mod TellingLines
pub mod ListsRun
