pub mod OneEffect
