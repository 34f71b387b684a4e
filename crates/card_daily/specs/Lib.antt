pub mod Closing
pub mod Due
pub mod Given
pub mod Laws
pub mod Penalties
pub mod Posts
pub mod Returns
pub mod Stands
