pub mod HandLaws
pub mod ApartLaws
pub mod TogetherLaws
pub mod OpenLaws
