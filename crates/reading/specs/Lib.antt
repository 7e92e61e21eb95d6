-- Parts of the lent lanes.
pub mod Parts
