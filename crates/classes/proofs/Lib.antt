-- The classes that the search leaves are the fields.
pub mod Searched
