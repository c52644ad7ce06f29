pub mod Words
pub mod Types
pub mod Same
pub mod Lines
pub mod Reading
pub mod Forms
pub mod Plain
pub mod Printing
