pub mod PairStored
pub mod PairAnswers
