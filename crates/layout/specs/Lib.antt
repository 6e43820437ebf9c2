pub mod Words
pub mod Forms
pub mod Opening
pub mod Output
pub mod Page
pub mod Program
pub mod Endings
pub mod Session
