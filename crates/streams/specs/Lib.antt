-- What the answers of reads and writes promise.
pub mod Got
