-- One step of a loop over an array, in terms of the items of the `toml` crate's specification.
use Rattle.std.proofs.Common.{◌≡◌, ℕ, ◌+◌, ◌<◌, List, ◌&&◌, refl, drop, length, get_or, drop-cons}
use Rattle.std.proofs.Common.{add-one}
use Rattle.toml.specs.View.{view, items_view}
use Rattle.toml.specs.declared.Value.{Value}
use Rattle.pklist.specs.ListFile.{is_name_value, are_names}

pub are_names_step : (values : List Value) (i : ℕ) (other : Value) → i < length values
    → are_names (items_view (drop i values)) ≡ is_name_value (view (get_or values i other))
    && are_names (items_view (drop (i + 1) values))
are_names_step values i other in_range = rw (add-one, drop-cons values i other) refl
