pub mod EntriesLaws
pub mod SaidLaws
