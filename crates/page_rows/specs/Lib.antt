pub mod NestedHost
