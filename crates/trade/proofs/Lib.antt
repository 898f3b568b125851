pub mod MixedLaws
