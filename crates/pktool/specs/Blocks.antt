-- The state of a source of blocks: the bytes it has left, and how many of its reads have failed.
use Rattle.std.specs.Prelude.{ℕ, List, Option}
use Rattle.std.specs.Io.KnownBytes.{prepend_known}
use Rattle.pktool.specs.declared.blocks.Blocks.{Blocks}

module _ {R : Type 0} where
  -- the bytes of the block not pulled yet, then those of the reader, if it reveals them
  abbrev pub unpulled : (R → Option (List ℕ)) → Blocks R → Option (List ℕ)
  unpulled remaining b = prepend_known b.block (remaining b.reader)

  -- how many reads have failed, modulo 2^64
  abbrev pub failed_reads : Blocks R → ℕ
  failed_reads b = b.failures
