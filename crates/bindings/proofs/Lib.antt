pub mod BindingLaws
