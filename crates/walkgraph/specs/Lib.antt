-- Document 01 as definitions, in its order and words. All of them take the reach as a variable: 96 in document 01's numbers.
pub mod Lists
pub mod Lanes
pub mod Map
pub mod Walk
pub mod Painting
pub mod Ring
pub mod Window
pub mod Field
pub mod Sweep
pub mod Links
pub mod Buffers
pub mod Reading
pub mod Refusals
pub mod Promise
pub mod AccessPromise
pub mod FieldsPromise
