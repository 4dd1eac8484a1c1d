-- The members of a dict that stand, by their keys.
pub mod SettledMembers
pub mod KeyPlaces
pub mod DictsAdded
