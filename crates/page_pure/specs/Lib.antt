pub mod PureSteps
pub mod ValueAnswers
