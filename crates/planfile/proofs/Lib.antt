pub mod FileWritten
pub mod RowByRow
