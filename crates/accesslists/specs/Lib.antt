-- The lists of an accepted call as the fields call is given them.
pub mod JoinLists
