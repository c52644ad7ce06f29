pub mod Walking
pub mod Promises
pub mod Demanding
