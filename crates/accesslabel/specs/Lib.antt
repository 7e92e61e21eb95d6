-- What the contracts of this crate speak of: the label and the point of an access cell.
pub mod AccessLabel
