pub mod Tried
pub mod Effects
pub mod Helping
pub mod Options
pub mod Laws
pub mod inner
