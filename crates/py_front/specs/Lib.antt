pub mod TreeAnswers
pub mod Answers
