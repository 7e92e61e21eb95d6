-- What sweeps ask and leave, and what making a field asks.
pub mod Makes
