-- The characters with the numbers of some bytes, one after the other; those of ASCII are its bytes.
use Rattle.std.proofs.Common.{◌≡◌, ℕ, ◌+◌, ◌<◌, List, [], ◌∷◌, ◌++◌, length, take, get_or, refl}
use Rattle.std.proofs.Common.{sym, ap, ◌∙◌, append-nil, add-one, arith, true, zero, suc}
use Rattle.std.specs.Prelude.{encode_utf8, encode_utf8_all}
use Rattle.std.specs.Char.{is_ascii}
use Rattle.std.specs.List.{list_all}
use Rattle.std.specs.Str.{IsAscii, IsUtf8}
use Rattle.std.proofs.Math.Seq.{take-suc}
use Rattle.std.proofs.lemmas.Bool.{and_parts, ltb-true}
use Rattle.std.proofs.lemmas.Str.{IsUtf8-from_ascii, encodes-IsAscii, encodes-append}

one_behind : (xs : List ℕ) (y : ℕ) → encode_utf8_all (xs ++ y ∷ []) ≡ encode_utf8_all xs
    ++ encode_utf8 y
one_behind xs y = encodes-append xs (y ∷ []) ∙ ap (λ t. encode_utf8_all xs ++ t)
    (append-nil (encode_utf8 y))

-- one more byte
pub numbered_more : (text bytes : List ℕ) (i : ℕ) → i < length bytes
    → text ≡ encode_utf8_all (take i bytes) → text ++ encode_utf8 (get_or bytes i 0)
    ≡ encode_utf8_all (take (i + 1) bytes)
numbered_more text bytes i lt e =
    ap (λ t. t ++ encode_utf8 (get_or bytes i 0)) e
    ∙ (sym (one_behind (take i bytes) (get_or bytes i 0))
    ∙ ap encode_utf8_all (sym (rw (add-one, take-suc bytes i 0) refl)))

are_ascii : (bytes : List ℕ) → list_all is_ascii bytes ≡ true → IsAscii bytes
are_ascii [] e i = omega arith
are_ascii (x ∷ bytes) e zero = ltb-true x 128 (and_parts (is_ascii x) (list_all is_ascii bytes) e).0
are_ascii (x ∷ bytes) e (suc i) =
    are_ascii bytes (and_parts (is_ascii x) (list_all is_ascii bytes) e).1 i

pub ascii_utf8 : (bytes : List ℕ) → list_all is_ascii bytes ≡ true → IsUtf8 bytes
ascii_utf8 bytes e = IsUtf8-from_ascii bytes (are_ascii bytes e)

pub ascii_numbered : (bytes : List ℕ) → list_all is_ascii bytes ≡ true
    → encode_utf8_all bytes ≡ bytes
ascii_numbered bytes e = encodes-IsAscii bytes (are_ascii bytes e)
