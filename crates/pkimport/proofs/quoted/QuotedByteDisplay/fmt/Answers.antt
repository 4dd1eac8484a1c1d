-- A byte that may not stand as it is becomes a backslash, an x and two hexadecimal digits.
use Rattle.std.proofs.Common.{◌≡◌, ◌<◌, Bool, false, ap, codes, if◌then◌else◌, List, ℕ, ◌++◌, ◌∷◌}
use Rattle.std.proofs.Common.{[], ◌∙◌, rules}
use Rattle.std.proofs.lemmas.Fmt.{hex_byte}
use Rattle.std.proofs.Output.{has_written_of_eq}
use Rattle.pkimport.specs.Quoted.{stands_as_is, quoted_byte, two_digits}
use Rattle.pkimport.proofs.quoted.QuotedByteDisplay.fmt.Goals as goal

-- a byte that is escaped
escaped : (byte : ℕ) → false ≡ stands_as_is byte → codes "\\x" ++ two_digits byte ≡ quoted_byte byte
escaped byte e = ap (λ (b : Bool). if b then byte ∷ [] else codes "\\x" ++ two_digits byte) e

pub returns-else-stands_as_is-clause-writes : goal.returns-else-stands_as_is-clause-writes
returns-else-stands_as_is-clause-writes g c =
    let byte = c.args.self.now.0 in
    let small : byte < 256 = search rules in
    let written = rw (c.laid_out.ensures, c.in_radix.ensures) at c.write.ensures.writes in
    λ plain ok.
    has_written_of_eq _ _ _ _ _
    (ap (λ (t : List ℕ). codes "\\x" ++ t) (hex_byte false byte small)
    ∙ escaped byte c.if-stands_as_is.ensures) (written plain ok)
