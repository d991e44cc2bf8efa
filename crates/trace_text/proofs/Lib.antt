pub mod Giving
pub mod Checking
pub mod Counting
pub mod Doing
pub mod SinkText
mod Appending
pub mod Rows
pub mod Behind
pub mod ValueNumbers
pub mod ValueWords
pub mod WholeValues
pub mod Cutting
mod Counts
mod FieldWords
mod EventsRead
mod SpelledLines
mod EventsWritten
pub mod LinesRead
pub mod SoFar
pub mod TracesRead
mod ValuesRead
mod BadLines
