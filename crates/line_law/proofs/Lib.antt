pub mod Queue
pub mod Coupled
pub mod Owned
pub mod Alike
pub mod ReadBack
pub mod Homeward
pub mod OwnAddress
pub mod Arrivals
mod OnBus
mod Bus
mod Changes
mod Devices
mod GateCloses
mod Gates
mod Acting
mod Putting
mod Facts
mod Taking
mod Tunnels
mod Entries
mod Joining
mod Opened
mod Items
mod TakesAny
mod Takes
mod Attempting
mod Hearing
mod Telling
mod Requests
mod Asking
mod Logs
mod Entering
mod Turning
mod NothingAsked
mod HeldJobs
mod Stepping
mod Following
mod RunsBefore
mod Traces
mod Runs
mod Cases
mod Kept
mod Reaching
mod Counts
mod Counting
mod Courses
mod CourseEnds
mod CourseSteps
mod Landing
mod CourseKept
mod Whole
mod Went
mod Told
mod DoneAt
mod Stays
mod Unpowered
mod Silent
mod Headline
