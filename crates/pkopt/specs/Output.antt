-- What a form is.
use Rattle.std.specs.Prelude.{ℕ, List}

pub record Output : Type 0 where
  -- the length of the pickle in bytes, up to and including STOP
  pub taken : ℕ
  -- the bytes of the form
  pub bytes : List ℕ
