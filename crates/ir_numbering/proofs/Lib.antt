pub mod Common
pub mod Each
pub mod NumberOf
pub mod NextValue
pub mod MentionPlaces
pub mod NumberedSites
