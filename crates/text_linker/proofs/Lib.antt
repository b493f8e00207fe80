pub mod LinkerLaws
