-- What holds anyway also holds of an error.
use Rattle.std.proofs.Common.{Result, Ok, Err, OnErr}

pub on_err : {A E P : Type 0} (x : Result A E) → P → OnErr x P
on_err (Ok a) h = tt
on_err (Err e) h = h
