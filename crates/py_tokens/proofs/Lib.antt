pub mod PieceExamples
pub mod StringExamples
pub mod TextExamples
pub mod TokensExample
