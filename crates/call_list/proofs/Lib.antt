pub mod EndingDrafts
pub mod LinesInside
