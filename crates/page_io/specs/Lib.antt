pub mod Files
pub mod MemFiles
pub mod MemBytes
pub mod Stream
