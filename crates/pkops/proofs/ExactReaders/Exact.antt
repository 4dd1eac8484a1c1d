-- What it is for a reading function to be exact: it finds what is laid, and nothing else. It passes
-- on the words for how a reading ends.
use Rattle.std.proofs.Common.{◌≡◌, ◌≢◌, ℕ, ◌<◌, List, [], ◌++◌, get_or, Result, Ok, Err}
pub use Rattle.pkops.specs.declared.fault.Fault.{Fault}
pub use Rattle.pkops.specs.declared.fault.Fault.TheVariants.{UnknownOpcode, BadArgument, TooLarge}
pub use Rattle.pkops.specs.declared.layout.Layout.{Layout}
pub use Rattle.pkops.specs.declared.reading.Unread.{Unread}
pub use Rattle.pkops.specs.declared.reading.Unread.TheVariants.{Short, Bad}
use Rattle.pkops.specs.Spelling.{Argument, Suits}
use Rattle.pkops.specs.Scans.{IsAbove, IsNegative, IsWithin}

abbrev pub IsBytes : List ℕ → Type 0
IsBytes bytes = (i : ℕ) → get_or bytes i 0 < 256

-- the bytes are a front of what some x is laid as, and not the whole of it
pub record Lacks {X : Type 0} (May : X → List ℕ → Type 0) (text : X → List ℕ)
    (bytes : List ℕ) : Type 0 where
  pub value : X
  pub more : List ℕ
  pub may : May value bytes
  pub parts : text value ≡ bytes ++ more
  pub lacks : more ≢ []

pub record Takes {X : Type 0} (Is : X → Type 0) (text : X → List ℕ) (bytes : List ℕ) (x : X)
    (rest : List ℕ) : Type 0 where
  pub is : Is x
  pub parts : bytes ≡ text x ++ rest
  pub rest_fits : IsBytes rest

-- Is x: x may be read; May x bytes: x may be what bytes begin; text x: the bytes of x
pub record IsExact {X : Type 0} (read : List ℕ → Result (X × List ℕ) Unread) (Is : X → Type 0)
    (May : X → List ℕ → Type 0) (text : X → List ℕ) (Faulty : Fault → List ℕ → Type 0) : Type
    0 where
  pub takes : (bytes : List ℕ) (x : X) (rest : List ℕ) → IsBytes bytes → read bytes ≡ Ok (x, rest)
      → Takes Is text bytes x rest
  pub again : (x : X) (rest : List ℕ) → Is x → read (text x ++ rest) ≡ Ok (x, rest)
  pub short : (bytes : List ℕ) → IsBytes bytes → read bytes ≡ Err Short → Lacks May text bytes
  pub stays : (bytes : List ℕ) → Lacks May text bytes → read bytes ≡ Err Short
  pub bad : (bytes : List ℕ) (fault : Fault) → IsBytes bytes → read bytes ≡ Err (Bad fault)
      → Faulty fault bytes
  pub faulty : (bytes : List ℕ) (fault : Fault) → Faulty fault bytes → read bytes ≡ Err (Bad fault)

pub record IsArgument (limit : ℕ) (lay : Layout) (arg : Argument) : Type 0 where
  pub suits : Suits lay arg
  pub within : IsWithin limit arg

-- the fault of an argument of this layout that the bytes begin
abbrev pub ArgFault : ℕ → Layout → Fault → List ℕ → Type 0
ArgFault limit lay (UnknownOpcode code) bytes = ⊥
ArgFault limit lay BadArgument bytes = IsNegative lay bytes
ArgFault limit lay TooLarge bytes = IsAbove limit lay bytes
