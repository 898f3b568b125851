pub mod ExclusionLaws
