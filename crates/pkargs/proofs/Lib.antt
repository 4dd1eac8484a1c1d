-- The lemmas of the command line: commands that grow, arguments that are free, and no jobs.
pub mod MoreArguments
pub mod Free
pub mod NoJob
