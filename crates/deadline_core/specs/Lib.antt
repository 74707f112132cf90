pub mod PollHistory
pub mod DueOrder
pub mod Timers
pub mod TimerOrder
pub mod Moments
pub mod PlaceAlarms
pub mod Tournament
pub mod CallHistory
