-- A walk that asks for fewer abstractions goes down where one for more does, while it is defined.
-- Used in Budgets.
use Rattle.std.proofs.Common.{◌≡◌, ℕ, zero, suc, ◌+◌, ◌<◌, ◌≤◌, refl, sym, ap, ◌∙◌, subst, arith}
use Rattle.ol_context.specs.Contexts.{Level, empty, o, pair, Context, tail, up}
use Rattle.ol_context.specs.Paths.{Crosses, inward, outward, Through, through}
use Rattle.ol_context.specs.Ways.{Way, on}
use Rattle.ol_context.proofs.Ways.{way_one, way_passes}
use Rattle.ol_net.specs.Nets.{NamedNet, NamedPort, free, slot, HasNode, Linked, IsNet}
use Rattle.ol_net.specs.Parts.{arity}
use Rattle.ol_net.specs.declared.parts.Kind.{Kind}
use Rattle.ol_net.specs.declared.parts.Kind.TheVariants as kind
use Rattle.ol_readback.specs.Frames.{os}
use Rattle.ol_readback.proofs.Holes.{fill, Before, moved, stripped, before}
use Rattle.ol_law_levels.proofs.Climbs.{Route, leaves, turns, falls}
use Rattle.ol_context.proofs.LeafMoves.{marked_empty}

-- ---- a node that takes an o away from a level lets nothing pass where that level is empty

fill_level : (j : ℕ) (v : Level) (b : Context) → fill j v b j ≡ v
fill_level zero v b = refl
fill_level (suc j) v b = fill_level j v (tail b)

-- no level of such contexts is o before the value
abbrev NoLevelGrows : (Level → Context) → Type 0
NoLevelGrows g = (l : ℕ) → ((v : Level) → g v l ≡ o v) → ⊥

two_values : (x : Level) → x ≡ o empty → x ≡ o (o empty) → ⊥
two_values x e e' = let r : o empty ≡ o (o empty) = sym e ∙ e' in absurd (cc)

fill_grows_not : (j : ℕ) (b : Context) → NoLevelGrows (λ v. fill j v b)
fill_grows_not zero b zero h = let r : empty ≡ o empty = h empty in absurd (cc)
fill_grows_not zero b (suc l) h = two_values (b (suc l)) (h empty) (h (o empty))
fill_grows_not (suc j) b zero h = two_values (b 0) (h empty) (h (o empty))
fill_grows_not (suc j) b (suc l) h = fill_grows_not j (tail b) l h

not_both : (k : Kind) (i s t j : ℕ) → s < arity k → (g : Level → Context) → NoLevelGrows g →
    (d : Context) → ((v : Level) → up k i s (g v) j ≡ o v) → up k i t d j ≡ empty → ⊥
not_both kind.Lam zero s t zero b g n d h e = marked_empty t (d 0) e
not_both kind.App zero s t zero b g n d h e = marked_empty t (d 0) e
not_both kind.Fan zero s t zero b g n d h e = marked_empty t (d 0) e
not_both kind.Lam zero s t (suc j) b g n d h e = n (suc j) h
not_both kind.App zero s t (suc j) b g n d h e = n (suc j) h
not_both kind.Fan zero s t (suc j) b g n d h e = n (suc j) h
not_both kind.Croissant zero s t zero b g n d h e = let r : empty ≡ o empty = h empty in absurd (cc)
not_both kind.Croissant zero s t (suc j) b g n d h e = n j h
not_both kind.Bracket zero s t zero b g n d h e =
    let r : pair (g empty 1) (g empty 0) ≡ o empty = h empty in absurd (cc)
not_both kind.Bracket zero s t (suc j) b g n d h e = n (suc (suc j)) h
not_both kind.Eraser i s t j b g n d h e = absurd (omega arith)
not_both k (suc i) s t zero b g n d h e = n 0 h
not_both k (suc i) s t (suc j) b g n d h e =
    not_both k i s t j b (λ v. tail (g v)) (λ l h'. n (suc l) h') (tail d) h e

not_stripped : (k : Kind) (i s t j j' : ℕ) (b b' d : Context) → s < arity k →
    ((v : Level) → up k i s (fill j' v b') ≡ fill j (o v) b) → up k i t d ≡ fill j empty b → ⊥
not_stripped k i s t j j' b b' d r h e =
    not_both k i s t j r (λ v. fill j' v b') (fill_grows_not j' b') d
    (λ v. ap (λ (c : Context). c j) (h v) ∙ fill_level j (o v) b)
    (ap (λ (c : Context). c j) e ∙ fill_level j empty b)

-- ---- down along a longer walk

-- the context before a crossing from slot 0
record Fell (k : Kind) (i : ℕ) (c : Context) : Type 0 where
  slot_left : ℕ
  context : Context
  is : up k i slot_left context ≡ c

fell : (k : Kind) (i s t : ℕ) (c d : Context) → Crosses k i s c t d → s ≡ 0 → Fell k i c
fell k i s t c d (inward b e) z = absurd (omega arith)
fell k i s t c d (outward {s = u} {c = a} b e) z = record { slot_left = u; context = a; is = e }

module _ {A : Type 0} (N : NamedNet A) (is_net : IsNet N) where
  through_fell : {q out : NamedPort A} {c d : Context} → Through N q c out d →
      (y : A) (k : Kind) (i : ℕ) → HasNode N y k i → q ≡ slot y 0 → Fell k i c
  through_fell (through {x = x} {k = k'} {i = i'} {s = s} {t = t} {c = c} {d = d} h r) y k i h' e =
      let v : slot x s ≡ slot y 0 = e in
      let a : x ≡ y = cc in
      let z : s ≡ 0 = cc in
      let o' = is_net.one_node y k' k i' i (subst (λ x. HasNode N x k' i') a h) h' in
      fell k i s t c d
      (subst (λ i. Crosses k i s c t d) o'.1 (subst (λ k. Crosses k i' s c t d) o'.0 r)) z

  module _ (T : A → Type 0) (p : ℕ) (start : Context) (most : ℕ) {v : NamedPort A} {e0 : Context}
      (whole : Way N (free p) start most v e0) where
    -- where the whole walk stands at slot 0 of a node before its end, it goes down through it
    goes_down : (u : NamedPort A) (c : Context) (made : ℕ) → Way N (free p) start made u c →
        made < most → (y : A) (k : Kind) (i : ℕ) → Linked N u (slot y 0) → HasNode N y k i →
        Fell k i c
    goes_down u c made w few y k i l h =
        let t = way_passes N made whole few in
        let z = way_one N is_net t.stands.way w in
        let e = is_net.one_link u (slot t.stands.node t.stands.at) (slot y 0)
        (subst (λ u. Linked N u (slot t.stands.node t.stands.at)) z.0 t.stands.linked) l in
        subst (Fell k i) z.1 (through_fell t.goes_through y k i h e)

    -- the route of a context with n' times o at some level is also that of the walk with n there
    abbrev AlsoDown : NamedPort A → Context → ℕ → Type 0
    AlsoDown u c m = (j n n' : ℕ) (b : Context) → c ≡ fill j (os n' empty) b → n ≤ n' →
        (made : ℕ) → Way N (free p) start made u (fill j (os n empty) b) → made + m ≤ most →
        Route N T u (fill j (os n empty) b) m

    fallen : (u : NamedPort A) (k : Kind) (i : ℕ) (y : A) (s m : ℕ) (d : Context) →
        Linked N u (slot y 0) → HasNode N y k i → s < arity k →
        Route N T (slot y (suc s)) d m → AlsoDown (slot y (suc s)) d m →
        AlsoDown u (up k i s d) (suc m)
    fallen u k i y s m d l h r w also j zero zero b e z made way few = falls k i l h r e w
    fallen u k i y s m d l h r w also j (suc n) zero b e z made way few = absurd (omega arith)
    fallen u k i y s m d l h r w also j n (suc n') b e z made way few =
        go (before k i s r d j (os n' empty) b e) n refl
      where
        go : Before k i s d j (os n' empty) b → (x : ℕ) → x ≡ n →
            Route N T u (fill j (os n empty) b) (suc m)
        go (moved j' b' x y') less q =
            falls k i l h r (y' (os n empty)) (also j' n (suc n') b' x z (suc made)
            (on way l h (outward r (y' (os n empty)))) (omega arith))
        go (stripped j' b' x y' bars) zero q =
            let c = subst (λ n. Way N (free p) start made u (fill j (os n empty) b)) (sym q) way in
            let f = goes_down u (fill j empty b) made c (omega arith) y k i l h in
            absurd (not_stripped k i s f.slot_left j j' b b' f.context r y' f.is)
        go (stripped j' b' x y' bars) (suc less) q =
            let c = subst (λ n. Way N (free p) start made u (fill j (os n empty) b)) (sym q) way in
            subst (λ n. Route N T u (fill j (os n empty) b) (suc m)) q
            (falls k i l h r (y' (os less empty)) (also j' less n' b' x (omega arith) (suc made)
            (on c l h (outward r (y' (os less empty)))) (omega arith)))

    pub also_down : (u : NamedPort A) {c : Context} {m : ℕ} → Route N T u c m → AlsoDown u c m
    also_down u (leaves q l) j n n' b e z made w few = leaves q l
    also_down u (turns k i l h r t) j n n' b e z made w few = turns k i l h r t
    also_down u (falls {d = d} {x = y} {s = s} {n = m} k i l h r e' rest) j n n' b e z made w few =
        fallen u k i y s m d l h r rest (also_down (slot y (suc s)) rest) j n n' b (e' ∙ e) z made w
        few
