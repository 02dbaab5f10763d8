pub mod AmountLaws
pub mod Reading
pub mod HeadLaws
pub mod StocksLaws
pub mod MatrixLaws
pub mod OpeningLaws
