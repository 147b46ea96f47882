pub mod CountLaws
pub mod TellLaws
