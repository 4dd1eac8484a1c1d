-- A text lies between the end of the one before it and its own end, and is UTF-8 there.
use Rattle.std.proofs.Common.{◌∙◌, [], ap, arith, get_or, length}
use Rattle.pkimport.proofs.JoinedTexts.{how_many, lies_by, none_past}
use Rattle.pkimport.proofs.texts.Texts.get.Goals as goal

pub returns-then-number-len : goal.returns-then-number-len
returns-then-number-len c =
    let many = how_many _ c.self.inside.ends c.self.inside.bytes c.self.invariant in
    let same = ap length c.self.view_is in
    none_past c.args.self.now c.args.number (omega (arith, many, same, c.len.ensures.value))

pub piece-requires-clause-ordered : goal.piece-requires-clause-ordered
piece-requires-clause-ordered c =
    let many = how_many _ c.self.inside.ends c.self.inside.bytes c.self.invariant in
    let found = lies_by _ c.self.inside.ends c.self.inside.bytes c.self.invariant
    c.args.number c.start_of-start.result c.end_of-end.result
    (omega (arith, many, c.len.ensures.value)) c.start_of-start.ensures.first
    (rw c.entries-ends.ensures at c.start_of-start.ensures.next)
    (rw c.entries-ends.ensures at c.end_of-end.ensures) in
    found.ordered

pub piece-requires-clause-within : goal.piece-requires-clause-within
piece-requires-clause-within c =
    let many = how_many _ c.self.inside.ends c.self.inside.bytes c.self.invariant in
    let found = lies_by _ c.self.inside.ends c.self.inside.bytes c.self.invariant
    c.args.number c.start_of-start.result c.end_of-end.result
    (omega (arith, many, c.len.ensures.value)) c.start_of-start.ensures.first
    (rw c.entries-ends.ensures at c.start_of-start.ensures.next)
    (rw c.entries-ends.ensures at c.end_of-end.ensures) in
    rw c.bytes.ensures found.within

pub from_utf8_unchecked-requires : goal.from_utf8_unchecked-requires
from_utf8_unchecked-requires c =
    let many = how_many _ c.self.inside.ends c.self.inside.bytes c.self.invariant in
    let found = lies_by _ c.self.inside.ends c.self.inside.bytes c.self.invariant
    c.args.number c.start_of-start.result c.end_of-end.result
    (omega (arith, many, c.len.ensures.value)) c.start_of-start.ensures.first
    (rw c.entries-ends.ensures at c.start_of-start.ensures.next)
    (rw c.entries-ends.ensures at c.end_of-end.ensures) in
    rw (c.piece.ensures, c.bytes.ensures, found.text) found.utf8

pub returns : goal.returns
returns c =
    let many = how_many _ c.self.inside.ends c.self.inside.bytes c.self.invariant in
    let found = lies_by _ c.self.inside.ends c.self.inside.bytes c.self.invariant
    c.args.number c.start_of-start.result c.end_of-end.result
    (omega (arith, many, c.len.ensures.value)) c.start_of-start.ensures.first
    (rw c.entries-ends.ensures at c.start_of-start.ensures.next)
    (rw c.entries-ends.ensures at c.end_of-end.ensures) in
    c.from_utf8_unchecked.ensures ∙ c.piece.ensures ∙ rw c.bytes.ensures found.text
    ∙ ap (λ ts. get_or ts c.args.number []) c.self.view_is
