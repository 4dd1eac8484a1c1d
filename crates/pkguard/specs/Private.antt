-- Definitions that only private functions cite. They need not be trusted.
pub mod Written
