-- Worked rows of what is told to C.
use Rattle.std.proofs.Common.{◌≡◌, [], ◌∷◌, ◌++◌, refl}
use Rattle.std.specs.Prelude.{codes, replicate, None, Some, false, true}
use Rattle.toml.specs.Data.{string, array, no_items, item, no_members, member}
use Rattle.pkops.specs.Spelling.{layout_at}
use Rattle.pkops.specs.declared.Op.TheVariants as op
use Rattle.pkimport.specs.Import.{AskedPair, AskedUnknown}
use Rattle.pkcheck.specs.declared.Extent.TheVariants.{OnePickle, ToTheEnd}
use Rattle.pkmachine.specs.declared.OldStrings.TheVariants.{Bytes}
use Rattle.pkload.specs.declared.Excess.TheVariants.{BuildsImport, HeavyKeys, OutOfMemory}
use Rattle.pkguard.specs.Encoding.{encoded_all, wanted_by}
use Rattle.pkguard.specs.Guard.{placed}
use Rattle.pkguard.specs.Layouts.{layout_number}
use Rattle.pkguard.specs.Listed.{pairs_at}
use Rattle.pkguard.specs.Loading.{bill_of, extent_by, old_strings_with, tolls_by, verdict_of_excess}
use Rattle.pkguard.specs.declared.costs.Costs.{Costs}
use Rattle.pkguard.specs.declared.settings.Settings.{Settings}

-- `os.system` and an import that isn't known
pair_encoded :
    encoded_all (AskedPair (codes "os") (codes "system") ∷ [])
    ≡ (2 ∷ 0 ∷ 0 ∷ 0 ∷ 0 ∷ 0 ∷ 0 ∷ 0 ∷ []) ++ codes "os" ++ (6 ∷ 0 ∷ 0 ∷ 0 ∷ 0 ∷ 0 ∷ 0 ∷ 0 ∷ [])
    ++ codes "system"
pair_encoded = refl

unknown_encoded : encoded_all (AskedUnknown ∷ []) ≡ replicate 16 255
unknown_encoded = refl

both_wanted : wanted_by (AskedPair (codes "os") (codes "system") ∷ AskedUnknown ∷ []) ≡ 40
both_wanted = refl

-- the names of a module stand in the order of its array, a name twice where it is there twice
module_listed :
    pairs_at
    (member (codes "a") (array (item (string (codes "c")) (item (string (codes "b")) no_items)))
    (member (codes "d") (array no_items) no_members))
    ≡ AskedPair (codes "a") (codes "c") ∷ AskedPair (codes "a") (codes "b") ∷ []
module_listed = refl

-- bytes that fit, and bytes that don't
fits : placed (1 ∷ 2 ∷ []) (7 ∷ 8 ∷ 9 ∷ []) ≡ 1 ∷ 2 ∷ 9 ∷ []
fits = refl

too_long : placed (1 ∷ 2 ∷ []) (7 ∷ []) ≡ 7 ∷ []
too_long = refl

-- limits on costs, of which one pickle or all are checked, and which BUILD keeps or not
abbrev few : Costs
few = record {
  levels = 2;
  weight = 4;
  work = 6;
  clash = 3;
  memory = 1_000;
  builds = 0;
  all = 0;
}

few_limit :
    tolls_by few
    ≡ record { levels = 2; weight = 4; work = 6; clash = 3; memory = 1_000; builds = false }
few_limit = refl

builds_may : (tolls_by (record few { builds = 1 })).builds ≡ true
builds_may = refl

first_alone : extent_by few ≡ OnePickle
first_alone = refl

all_of_them : extent_by (record few { all = 1 }) ≡ ToTheEnd
all_of_them = refl

-- flags are 0 or 1
abbrev some : Settings
some = record {
  size = 64;
  counted = 1;
  stack = 1;
  memo = 1;
  passed = 1;
  numbers = 1;
  old_strings = 2;
  row_memo = 0;
  large = 0;
  sorted = 0;
}

few_served : old_strings_with some few ≡ Some Bytes
few_served = refl

two_builds : old_strings_with some (record few { builds = 2 }) ≡ None
two_builds = refl

two_all : old_strings_with some (record few { all = 2 }) ≡ None
two_all = refl

old_size : old_strings_with (record some { size = 56 }) few ≡ None
old_size = refl

-- a key that is too heavy at the offset 63 of the third pickle, and a bill that couldn't be kept
heavy :
    verdict_of_excess 63 HeavyKeys 2
    ≡ record {
      status = 1;
      reason = 21;
      number = 0;
      has_pair = 0;
      at = 63;
      taken = 0;
      imports = 0;
      module_length = 0;
      name_length = 0;
      pickles = 2;
    }
heavy = refl

last_reason : (verdict_of_excess 0 BuildsImport 0).reason ≡ 24
last_reason = refl

lost : (verdict_of_excess 0 OutOfMemory 0).reason ≡ 18
lost = refl

billed :
    bill_of (record { levels = 3; weight = 7; work = 9; clash = 8; builds = true }) 560
    ≡ record { levels = 3; weight = 7; work = 9; clash = 8; memory = 560 }
billed = refl

-- the arguments of NONE, BININT1, BININT, BINFLOAT and FRAME have so many bytes
none_numbered : layout_number (layout_at op.None) ≡ 0
none_numbered = refl

small_numbered : layout_number (layout_at op.BinInt1) ≡ 1
small_numbered = refl

number_numbered : layout_number (layout_at op.BinInt) ≡ 4
number_numbered = refl

float_numbered : layout_number (layout_at op.BinFloat) ≡ 8
float_numbered = refl

frame_numbered : layout_number (layout_at op.Frame) ≡ 8
frame_numbered = refl

-- INT has a line, GLOBAL two, and payloads stand behind a count of one, four or eight bytes
line_numbered : layout_number (layout_at op.Int) ≡ 16
line_numbered = refl

lines_numbered : layout_number (layout_at op.Global) ≡ 32
lines_numbered = refl

short_numbered : layout_number (layout_at op.ShortBinUnicode) ≡ 65
short_numbered = refl

text_numbered : layout_number (layout_at op.BinUnicode) ≡ 68
text_numbered = refl

array_numbered : layout_number (layout_at op.ByteArray8) ≡ 72
array_numbered = refl
