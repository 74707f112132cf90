pub mod Lists
pub mod Tables
pub mod Texts
pub mod Nearest
pub mod Places
pub mod Shown
pub mod Said
