-- The line, to be read from the first file to the last.

-- 1. Datagrams and the frames in them
pub mod Reading
pub mod Network
-- 2. The gateway, the tunnel, and the whole line: what can happen
pub mod Gateway
pub mod Tunnel
pub mod GatewayEnd
pub mod World
pub mod Arrives
pub mod Concerns
pub mod Legal
pub mod Fresh
-- 3. What the client sees of it
pub mod Record
pub mod ChannelLost
pub mod Lapses
pub mod ClientView
pub mod Dropped
pub mod ClientEnd
pub mod ClientFrames
-- 4. What is told
pub mod Log
pub mod Moments
pub mod Signs
pub mod Progress
pub mod Told
pub mod Faults
-- 5. What the client keeps to
pub mod Renews
pub mod Sendings
pub mod Written
pub mod Attempts
pub mod Asks
pub mod Closing
pub mod Waiting
pub mod Ends
pub mod Leaves
pub mod Haste
-- 6. The outside: what a link, a port, a dialer and a watcher tell
pub mod LinkStory
pub mod Polled
pub mod PortStory
pub mod Serving
pub mod Dialled
pub mod Watched
pub mod Pumped
-- 7. What is promised
pub mod OldStoppedOrNew
pub mod ActedOnce
pub mod Telegrams
pub mod Headline
-- 8. The script of a simulated line
pub mod Counts
pub mod Lines
pub mod Deliveries
pub mod Owed
pub mod Follows
pub mod StartOf
pub mod Calm
pub mod Undisturbed
-- 9. Runs that show what all this allows
pub mod Runs
