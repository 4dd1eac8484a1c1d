-- What is proved of an import table: its texts, its entries, and copies of them.
pub mod Errs
pub mod JoinedTexts
pub mod NotedImports
pub mod Copies
-- worked rows
mod QuotedRows
