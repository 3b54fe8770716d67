-- The words of a call, and what is printed, to be read from the first file to the last.
pub mod Statuses
pub mod ReportText
pub mod Printed
pub mod Sums
-- A report with entries of all kinds, and its text
pub mod Example
