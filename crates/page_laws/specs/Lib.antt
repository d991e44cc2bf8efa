pub mod History
pub mod CallLaws
pub mod TimerLaws
pub mod SchedulerLaws
pub mod Scheduling
pub mod Moves
pub mod ClosureMarks
pub mod RunLaws
