pub mod Refusing
pub mod Four
pub mod KindWords
pub mod Apart
pub mod Keywords
pub mod OneLine
pub mod Texts
