pub mod Circle
pub mod InTurn
pub mod Lacking
pub mod Remembering
pub mod Runs
pub mod Trying
pub mod Behind
