pub mod Ending
mod NameTexts
mod ReadTexts
mod ReadSpans
mod ReadLists
mod Written
mod Walking
mod JsonText
