-- The arena that the program's `Arena` stands for.
use Rattle.pkjson.specs.declared.arena.Arena.{Arena as Held}
use Rattle.pkjson.specs.Private.Arena.{Arena}
use Rattle.pkjson.specs.Private.Seen.{shape_seen, kept_all}

-- the stack, the memo and the objects
abbrev pub parts : Held → Arena
parts a = record { shape = shape_seen a.stack.items a.memo; kept = kept_all a.objects.items }
