pub mod Advancing
pub mod Beginning
pub mod Clearing
pub mod Live
pub mod Passing
pub mod PassingOver
pub mod Stages
pub mod Undoing
