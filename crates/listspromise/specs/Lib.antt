-- What access of many rectangles promises.
pub mod AccessListsPromise
