-- Worked examples of bytes between double quotes.
use Rattle.std.proofs.Common.{◌≡◌, refl, codes, [], ◌∷◌}
use Rattle.pkimport.specs.Quoted.{quoted}

plain : quoted (codes "a b~") ≡ codes "\"a b~\""
plain = refl

escaped :
    quoted (0x22 ∷ 0x00 ∷ 0x5c ∷ 0x7f ∷ 0xe9 ∷ [])
    ≡ codes "\"\\x22\\x00\\x5c\\x7f\\xe9\""
escaped = refl
