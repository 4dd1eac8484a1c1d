-- `OutOfMemory` is never the fault of a document, and a blank text has none.
use Rattle.std.proofs.Common.{◌∙◌, sym, ap, Some}
use Rattle.toml.specs.View.{table_view}
use Rattle.pklist.proofs.ListFile.Index.{blank_fault}
use Rattle.pklist.proofs.ListFile.ListFaults.{fault_is}
use Rattle.pklist.proofs.allow.Allow.from_toml.Goals as goal

pub returns-in-Some-clause-memory : goal.returns-in-Some-clause-memory
returns-in-Some-clause-memory c = λ memory _. fault_is (table_view c.in-Ok.document)
    (sym c.document_fault.ensures ∙ (c.in-Some.is ∙ ap Some memory))

pub returns-in-Err-index_of-clause-memory : goal.returns-in-Err-index_of-clause-memory
returns-in-Err-index_of-clause-memory c = λ memory blank. blank_fault c.args.text.now
    (table_view c.in-Ok.document) c.in-Ok.ensures.ok
    (sym c.document_fault.ensures ∙ c.in-None.is) blank
