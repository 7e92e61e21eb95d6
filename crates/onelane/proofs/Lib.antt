-- Laws of one lane, for the callers: what is read of it, and its mark of change.
pub mod Places
pub mod Mark
