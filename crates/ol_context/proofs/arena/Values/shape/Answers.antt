use Rattle.std.proofs.Common.{◌≡◌, ◌+◌, ◌-◌, ◌<◌, [], ◌∷◌, length, slice_get, Some, option_copied}
use Rattle.std.proofs.Common.{arith, IsSome, true, false, sym, ap, ◌∙◌, subst}
use Rattle.std.proofs.lemmas.Option.{get_or_from_slice_get}
use Rattle.ol_context.specs.Contexts.{empty}
use Rattle.ol_context.specs.HeldLevels.{trees}
use Rattle.ol_context.proofs.Shapes.{trees_length, first_is_empty, shape_at, below_at, below_more}
use Rattle.ol_context.proofs.arena.Values.shape.Goals as goal

pub returns-then-at-eq0-clause-is : goal.returns-then-at-eq0-clause-is
returns-then-at-eq0-clause-is c = rw (← c.self.view_is, ← c.v.view_is, c.if-at-eq0.true)
    (first_is_empty c.self.inside.shapes.keys)

pub unreachable-requires : goal.unreachable-requires
unreachable-requires c =
    let r : c.v.inside.at < length (trees c.self.inside.shapes.keys) = rw (c.self.view_is, c.v.view_is) c.requires in
    let l = trees_length c.self.inside.shapes.keys in
    let b : c.v.inside.at - 1 < length c.self.inside.shapes.keys = omega arith in
    absurd (true-false (sym (subst IsSome c.in_default.is (c.get_index.ensures.found.1 b))))
  where
    true-false : true ≡ false → ⊥
    true-false e = absurd (cc)

pub returns-clause-is : goal.returns-clause-is
returns-clause-is c =
    let r : c.v.inside.at < length (trees c.self.inside.shapes.keys) = rw (c.self.view_is, c.v.view_is) c.requires in
    let l = trees_length c.self.inside.shapes.keys in
    let b : c.v.inside.at - 1 < length c.self.inside.shapes.keys = omega arith in
    let s : slice_get c.self.inside.shapes.keys
    (c.v.inside.at - 1) ≡ Some c.in-Some.shape.now = sym c.get_index.ensures.key ∙ ap option_copied c.in-Some.is in
    let g = get_or_from_slice_get c.self.inside.shapes.keys
    (c.v.inside.at - 1) c.in-Some.shape.now c.in-Some.shape.now s in
    rw (← c.self.view_is, ← c.v.view_is)
    (rw (← g) (shape_at (empty ∷ []) c.self.inside.shapes.keys
    (c.v.inside.at - 1) c.v.inside.at c.in-Some.shape.now c.self.invariant.0 (omega arith) b))

pub returns-clause-held : goal.returns-clause-held
returns-clause-held c =
    let r : c.v.inside.at < length (trees c.self.inside.shapes.keys) = rw (c.self.view_is, c.v.view_is) c.requires in
    let l = trees_length c.self.inside.shapes.keys in
    let b : c.v.inside.at - 1 < length c.self.inside.shapes.keys = omega arith in
    let s : slice_get c.self.inside.shapes.keys
    (c.v.inside.at - 1) ≡ Some c.in-Some.shape.now = sym c.get_index.ensures.key ∙ ap option_copied c.in-Some.is in
    let g = get_or_from_slice_get c.self.inside.shapes.keys
    (c.v.inside.at - 1) c.in-Some.shape.now c.in-Some.shape.now s in
    rw (← c.self.view_is)
    (rw (← g) (below_more (1 + (c.v.inside.at - 1)) (length (trees c.self.inside.shapes.keys)) _
    (below_at 1 c.self.inside.shapes.keys
    (c.v.inside.at - 1) c.in-Some.shape.now c.self.invariant.0 b) (omega arith)))

pub returns-clause-earlier : goal.returns-clause-earlier
returns-clause-earlier c =
    let r : c.v.inside.at < length (trees c.self.inside.shapes.keys) = rw (c.self.view_is, c.v.view_is) c.requires in
    let l = trees_length c.self.inside.shapes.keys in
    let b : c.v.inside.at - 1 < length c.self.inside.shapes.keys = omega arith in
    let s : slice_get c.self.inside.shapes.keys
    (c.v.inside.at - 1) ≡ Some c.in-Some.shape.now = sym c.get_index.ensures.key ∙ ap option_copied c.in-Some.is in
    let g = get_or_from_slice_get c.self.inside.shapes.keys
    (c.v.inside.at - 1) c.in-Some.shape.now c.in-Some.shape.now s in
    rw (← c.v.view_is)
    (rw (← g) (below_more (1 + (c.v.inside.at - 1)) c.v.inside.at _
    (below_at 1 c.self.inside.shapes.keys
    (c.v.inside.at - 1) c.in-Some.shape.now c.self.invariant.0 b) (omega arith)))
