pub mod FirstDrafts
mod JoiningHomes
mod KnownBytes
mod ReadingRequests
pub mod RowsWritten
mod WritingWords
