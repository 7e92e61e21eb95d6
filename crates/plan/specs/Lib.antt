-- The site of an accepted field call, and its plan.
pub mod Sites
pub mod Plans
