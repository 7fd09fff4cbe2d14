use Rattle.std.proofs.Common.{◌≡◌, ℕ, get_or, arith, sym, ap, subst, ◌∙◌}
use Rattle.std.proofs.lemmas.Option.{slice_get_within, get_or_from_slice_get}
use Rattle.ol_net.specs.declared.parts.Port.{Port}
use Rattle.ol_net.specs.declared.parts.Port.TheVariants.{Free}
use Rattle.ol_translate.proofs.Placing.{index_hit, index_miss}
use Rattle.ol_translate.proofs.index.Index.place_of.Goals as goal

pub returns-then-variable-len : goal.returns-then-variable-len
returns-then-variable-len c =
    index_miss c.args.self.now.places.items c.args.wires.now.items (0, Free 0) c.args.variable c.requires
    (λ i e l q. absurd (omega (
      arith,
      slice_get_within c.args.self.now.places.items c.args.variable
          i e,
      c.if-variable-len.true,
      c.len.ensures,
      c.args.self.now.places.ok.0,
    )))

pub returns-then-place-len : goal.returns-then-place-len
returns-then-place-len c =
    index_miss c.args.self.now.places.items c.args.wires.now.items (0, Free 0) c.args.variable c.requires
    (λ i e l q.
    let same = get_or_from_slice_get c.args.self.now.places.items c.args.variable i c.index-place.result.now e in
    absurd (omega (arith, same, c.index-place.ensures, c.if-place-len.true, c.len-2.ensures, c.args.wires.now.ok.0)))

pub returns-then-index-variable : goal.returns-then-index-variable
returns-then-index-variable c =
    let wires = c.args.wires.now.items in
    let d = c.index.result.now in
    index_miss c.args.self.now.places.items c.args.wires.now.items c.index.result.now c.args.variable c.requires
    (λ i e l q.
    let same : c.index-place.result.now ≡ i = c.index-place.ensures
    ∙ get_or_from_slice_get c.args.self.now.places.items c.args.variable i c.index-place.result.now e in
    let there : (get_or wires c.index-place.result.now d).0 ≡ c.args.variable = subst
    (λ k. (get_or wires k d).0 ≡ c.args.variable) (sym same) q in
    let own : c.index.result.now.0 ≡ c.args.variable = ap (λ (w : ℕ × Port). w.0) c.index.ensures ∙ there in
    absurd (c.if-index-variable.true own))

pub returns : goal.returns
returns c =
    let own = ap (λ (w : ℕ × Port). w.0) c.index.ensures in
    index_hit c.args.self.now.places.items c.args.wires.now.items c.index.result.now c.args.variable
    c.index-place.result.now c.requires
    (omega (arith, c.if-place-len.false, c.len-2.ensures, c.args.wires.now.ok.0)) (sym own ∙ c.if-index-variable.false)
