pub mod TwoClosures
