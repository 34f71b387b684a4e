pub mod IndexFound
pub mod RowsFound
