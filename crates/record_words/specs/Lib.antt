pub mod OneWord
