-- Finding the roots of all members, and what equal roots say.
pub mod Rooting
