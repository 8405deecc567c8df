mod Inv
mod Quiet
mod Counts
mod Joins
mod Decided
mod Applied
mod Views
mod Rows
mod Change
mod Stages
mod Entries
mod Slots
mod Shape
mod Looking
mod Reading
mod Committing
mod Preparing
mod Deciding
mod Stored
mod Learning
mod Applying
mod Steps
mod ShapeTurns
mod ShapeSteps
mod Wholes
mod Copy
mod Claim
mod Begins
pub mod Theorem
pub mod CutLaw
pub mod Never
