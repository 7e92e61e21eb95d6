-- The promise determines the results.
pub mod AccessListsCall
