-- The values of a set of limits.
use Rattle.std.specs.Prelude.{ℕ, ◌≤◌}

-- limits on what is read, kept and written
pub record Bounds : Type 0 where
  -- bytes in the payload of a counted argument
  pub counted : ℕ
  -- stack entries, marks included
  pub stack : ℕ
  -- memo entries
  pub memo : ℕ
  -- nesting depth of JSON values: 0 for a scalar, 1 for an empty list
  pub depth : ℕ
  -- JSON values
  pub values : ℕ
  -- bytes in a payload that is skipped
  pub passed : ℕ
  -- the greatest memo number that PUT, BINPUT or LONG_BINPUT may store under
  pub numbers : ℕ

-- the limits with these values
abbrev pub bounds : (counted stack memo depth values passed numbers : ℕ) → Bounds
bounds counted stack memo depth values passed numbers = record {
  counted = counted;
  stack = stack;
  memo = memo;
  depth = depth;
  values = values;
  passed = passed;
  numbers = numbers;
}

-- the default limits
abbrev pub standard : Bounds
standard = bounds 16_777_216 1_000_000 1_000_000 100 1_000_000 16_777_216 4_294_967_295

-- the greatest limits without large data: the default ones, except for skipped payloads
abbrev pub greatest : Bounds
greatest = record standard { passed = 1_099_511_627_776 }

-- the default limits for large data: as many memo entries as 32-bit numbers can name, and the same
-- number of stack entries and payload bytes
abbrev pub large : Bounds
large = record standard {
  counted = 4_294_967_295;
  stack = 4_294_967_295;
  memo = 4_294_967_295;
}

-- the greatest limits for large data
abbrev pub greatest_large : Bounds
greatest_large = record large { passed = greatest.passed }

-- the limits of a reader that holds every payload: `counted` applies to all of them
abbrev pub holding_all : Bounds → Bounds
holding_all limits = record limits { passed = limits.counted }

-- each limit is at most the other's
pub record AreWithin (a b : Bounds) : Type 0 where
  pub counted : a.counted ≤ b.counted
  pub stack : a.stack ≤ b.stack
  pub memo : a.memo ≤ b.memo
  pub depth : a.depth ≤ b.depth
  pub values : a.values ≤ b.values
  pub passed : a.passed ≤ b.passed
  pub numbers : a.numbers ≤ b.numbers
