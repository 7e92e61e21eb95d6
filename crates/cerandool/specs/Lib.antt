-- What the exports give back.
pub mod Exports
