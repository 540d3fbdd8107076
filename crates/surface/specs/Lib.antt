pub mod Mass
pub mod Surface
