pub mod Dss1
