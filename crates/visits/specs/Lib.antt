-- What the contracts of this crate speak of: what one move does, what labelling an access cell does, and the search that they are steps of.
pub mod Visits
pub mod Plants
pub mod SearchState
pub mod Lent
