pub mod Places
pub mod Svg
pub mod Sections
pub mod Pictures
pub mod inner
