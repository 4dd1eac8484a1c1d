-- What is proved of list files and of arrays of pairs.
pub mod ListFile
pub mod BinarySearch
