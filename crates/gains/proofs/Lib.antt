pub mod GainAnswers
