pub mod Arguments
pub mod Asked
pub mod Compare
pub mod Laws
pub mod Program
pub mod steps
