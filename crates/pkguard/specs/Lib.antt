pub mod Codes
pub mod Settings
pub mod Encoding
pub mod Listed
pub mod Layouts
pub mod Guard
pub mod Loading
pub mod Listing
-- internal definitions, which need not be trusted
pub mod Private
