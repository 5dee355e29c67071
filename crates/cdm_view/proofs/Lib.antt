pub mod ListLemmas
mod EarlierLemmas
pub mod RangeLemmas
pub mod LoadLemmas
pub mod ReasonLemmas
mod CauseLemmas
pub mod CancelledLemmas
pub mod TurnLemmas
pub mod WaitingLemmas
pub mod OutcomeLemmas
pub mod RunLemmas
pub mod AnswerLemmas
pub mod StandingLemmas
pub mod EqualLemmas
pub mod PassedLemmas
pub mod ChangeLemmas
pub mod KnownLemmas
pub mod WorkedStandings
