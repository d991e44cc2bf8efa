-- What assignments, calls, units of fuel and operations keep, everything that a page does keeps; so the laws on fuel, time and order.
pub mod TimeStays
pub mod Evaluation
pub mod KnownArguments
pub mod Runs
pub mod Operations
pub mod Turns
pub mod FuelAndTime
pub mod InOrder
