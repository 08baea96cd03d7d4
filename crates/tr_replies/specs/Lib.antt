pub mod Archives
pub mod LineFaults
pub mod OneLine
pub mod Snapshots
pub mod Status
pub mod Text
pub mod Words
