pub mod OpNames
pub mod Machine
pub mod Evaluation
pub mod PureOperations
pub mod HostSteps
pub mod Following
pub mod Asks
