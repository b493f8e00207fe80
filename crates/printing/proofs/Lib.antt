pub mod RefusalLaws
pub mod PrintLaws
