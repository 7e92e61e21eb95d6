-- What the fields call is given.
pub mod Input
