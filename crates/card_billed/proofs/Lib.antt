pub mod Fronts
pub mod Late
pub mod Rests
pub mod Sheets
pub mod SheetsStay
pub mod Steps
