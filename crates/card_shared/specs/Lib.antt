pub mod IndexTable
pub mod Rows
pub mod Table
