-- Lines of a room text: their forms, and what reading them finds.
pub mod Fours
pub mod Forms
pub mod Answers
