-- Lines of listings as the program prints them.
use Rattle.std.proofs.Common.{◌≡◌, refl, codes, [], ◌∷◌}
use Rattle.std.specs.Fmt.{digits}
use Rattle.std.specs.Prelude.{negsuc}
use Rattle.hex.specs.Hex.{encode_with}
use Rattle.pkops.specs.Spelling.{Nothing, Number, Signed, Pair, Counted, instruction}
use Rattle.pkops.specs.declared.Op.TheVariants as op
use Rattle.pkcheck.specs.Heard.{heard}
use Rattle.pkimport.specs.Import.{AskedPair, AskedUnknown}
use Rattle.pkprint.specs.Imports.{import_line}
use Rattle.pkprint.specs.Listing.{listing_line, position_text, highest, highest_line, indent}

five_places : position_text 7 ≡ codes "    7"
unfolding digits
five_places = refl

six_places : position_text 123_456 ≡ codes "123456"
unfolding digits
six_places = refl

mark : listing_line (heard 0 (instruction op.Mark Nothing) 0) ≡ codes "    0: 28 MARK\n"
unfolding digits encode_with indent
mark = refl

under_a_mark :
    listing_line (heard 1 (instruction op.ShortBinUnicode (Counted (codes "a"))) 1)
    ≡ codes "    1: 8c   SHORT_BINUNICODE \"a\"\n"
unfolding digits encode_with indent
under_a_mark = refl

number :
    listing_line (heard 4 (instruction op.BinInt1 (Number 1 1)) 0)
    ≡ codes "    4: 4b BININT1 1\n"
unfolding digits encode_with indent
number = refl

signed :
    listing_line (heard 0 (instruction op.BinInt (Signed (negsuc 1))) 0)
    ≡ codes "    0: 4a BININT -2\n"
unfolding digits encode_with indent
signed = refl

long :
    listing_line (heard 7 (instruction op.Long1 (Counted (0xff ∷ []))) 0)
    ≡ codes "    7: 8a LONG1 <ff>\n"
unfolding digits encode_with indent
long = refl

pair :
    listing_line (heard 2 (instruction op.Global (Pair (codes "m") (codes "f"))) 0)
    ≡ codes "    2: 63 GLOBAL \"m\" \"f\"\n"
unfolding digits encode_with indent
pair = refl

bytes :
    listing_line (heard 0 (instruction op.ShortBinBytes (Counted (0x22 ∷ 0x00 ∷ 0x5c ∷ []))) 0)
    ≡ codes "    0: 43 SHORT_BINBYTES \"\\x22\\x00\\x5c\"\n"
unfolding digits encode_with indent
bytes = refl

last :
    highest_line (highest (heard 0 (instruction op.Proto (Number 1 2)) 0
    ∷ heard 2 (instruction op.Stop Nothing) 0 ∷ []))
    ≡ codes "highest protocol: 2\n"
unfolding digits
last = refl

import : import_line (AskedPair (codes "m") (codes "f")) ≡ codes "\"m\" \"f\"\n"
import = refl

unknown_import : import_line AskedUnknown ≡ codes "unknown\n"
unknown_import = refl
