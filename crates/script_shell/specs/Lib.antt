pub mod Promises
pub mod Ran
pub mod Readers
pub mod Reading
pub mod Serving
pub mod Stops
