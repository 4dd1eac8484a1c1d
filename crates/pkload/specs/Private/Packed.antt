-- How stack and memo hold the cost of an object in a number of four bytes.
use Rattle.std.specs.Prelude.{◌≡◌, ℕ, zero, suc, ◌+◌, ◌*◌, ◌/◌, ◌%◌, ◌<◌, nat_eq, Bool, true, false}
use Rattle.std.proofs.Common.{refl, arith}
use Rattle.pkload.specs.Heft.{Heft}

-- the cost with a code: from the lowest bit up, two flags, 10 bits of depth, and the weight
abbrev pub unpacked : ℕ → Heft
unpacked code = record {
  weight = code / 4096;
  depth = (code / 4) % 1024;
  salted = nat_eq (code % 2) 1;
  imported = nat_eq ((code / 2) % 2) 1;
}

-- a flag as a number
abbrev pub flag : Bool → ℕ
flag true = 1
flag false = 0

-- the code of a cost
abbrev pub packed : Heft → ℕ
packed heft =
    flag heft.salted + (2 * flag heft.imported + (4 * heft.depth + 4096 * heft.weight))

flag_of : (n : ℕ) → n < 2 → flag (nat_eq n 1) ≡ n
flag_of zero h = refl
flag_of (suc zero) h = refl
flag_of (suc (suc n)) h = absurd (omega (arith, h))

-- unpacking forgets nothing
pub packed_unpacked : (code : ℕ) → packed (unpacked code) ≡ code
packed_unpacked code = omega (
  arith,
  flag_of (code % 2) (omega arith),
  flag_of ((code / 2) % 2) (omega arith),
)
