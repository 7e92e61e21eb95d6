-- The ends of the lists and their indices as loops pass them, and what is known of lists that are not refused.
pub mod Ends
pub mod Accepted
