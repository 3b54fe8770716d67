-- The definitions that all contracts cite, in the order of a book.

-- 1. Words of a text
pub mod Words
pub mod Numbers
pub mod Addresses
pub mod Flags
pub mod Sizes
pub mod Values
pub mod Spells
pub mod Places
pub mod Answers
pub mod LeastLine
pub mod Refusal
pub mod TextLines
-- 2. A project and what it means
pub mod Groups
pub mod Statements
pub mod Models
pub mod Rules
pub mod Meaning
pub mod Counts
-- 3. Its octets
pub mod Parameters
pub mod Tables
pub mod Acts
-- 4. Frames
pub mod Octets
pub mod Apdu
pub mod ApduReading
pub mod Cemi
pub mod KnxNetIp
-- 5. The connection
pub mod Connection
pub mod DeviceConnection
pub mod ClientConnection
pub mod ConnectionLaws
-- 6. The device
pub mod Loading
pub mod Device
pub mod DeviceState
pub mod DeviceFrames
pub mod DeviceSending
-- 7. The plan
pub mod Operations
pub mod Plans
pub mod LoadPlan
pub mod GoodPlan
pub mod Served
-- 8. The script
pub mod ScriptText
-- 9. What a run promises
pub mod Promises
-- 10. The outside
pub mod Outside
pub mod Memory
