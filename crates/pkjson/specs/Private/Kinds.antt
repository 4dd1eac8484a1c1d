-- The kind that the program's `Kind` stands for.
use Rattle.std.specs.Prelude.{string_bytes}
use Rattle.serde_json.specs.Data.{null, boolean, number, string}
use Rattle.serde_json.specs.Find.{of_integer}
use Rattle.pkjson.specs.declared.kinds.Kind.{Kind as Made}
use Rattle.pkjson.specs.declared.kinds.Kind.TheVariants.{Items, Pairs, Null, Bool as Truth, Int}
use Rattle.pkjson.specs.declared.kinds.Kind.TheVariants.{Lent, Decoded}
use Rattle.pkjson.specs.Contents.{Kind, OfItems, OfPairs, OfValue}

-- the kind of an object, as a value
abbrev pub kind_seen : Made → Kind
kind_seen Items = OfItems
kind_seen Pairs = OfPairs
kind_seen Null = OfValue null
kind_seen (Truth b) = OfValue (boolean b)
kind_seen (Int i) = OfValue (number (of_integer i))
kind_seen (Lent t) = OfValue (string t.now)
kind_seen (Decoded t) = OfValue (string (string_bytes t))
