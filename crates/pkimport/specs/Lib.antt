-- what a pickle requests, and how it is printed
pub mod Import
pub mod Quoted
-- what the table of a machine holds
pub mod Table
-- what need not be trusted
pub mod Private
