pub mod VocabularyLaws
