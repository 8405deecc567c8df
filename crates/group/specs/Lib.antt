pub mod State
pub mod Answer
