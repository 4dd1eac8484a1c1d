-- The lemmas of the export: values and texts, settled objects, plain runs, dict keys, integers.
pub mod Values
pub mod Parts
pub mod Kept
pub mod Runs
pub mod DictKeys
pub mod Entries
pub mod MachineIntegers
