-- Weaker statements about a result.
use Rattle.std.proofs.Common.{Result, Ok, Err, OnErr, OnOk}

pub on_each : {A E R P Q : Type 0} (x : Result A E) → (P → R) → (Q → R) → OnOk x P → OnErr x Q → R
on_each (Ok a) f g h k = f h
on_each (Err e) f g h k = g k

pub on_err : {A E P : Type 0} (x : Result A E) → P → OnErr x P
on_err (Ok a) h = tt
on_err (Err e) h = h
