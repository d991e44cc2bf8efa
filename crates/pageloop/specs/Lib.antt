pub mod HostClosures
