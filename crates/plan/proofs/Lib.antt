-- The field call's verdict from its parts, and its plan.
pub mod Verdicts
pub mod Plans
