pub mod BytesLaws
pub mod NumbersLaws
pub mod EndianLaws
pub mod SignedLaws
