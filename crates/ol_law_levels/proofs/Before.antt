-- What a walk after a step is before it.
-- Used in Steps.
use Rattle.std.proofs.Common.{◌≡◌, ℕ, suc, ◌<◌, List, [], ◌∷◌, ◌↔◌, refl, sym, ap, ◌∙◌, subst}
use Rattle.ol_context.proofs.Contexts.{injective}
use Rattle.ol_context.specs.Contexts.{Context, up, levels}
use Rattle.ol_invariance.proofs.Moves.{Meets, Commutes}
use Rattle.ol_net.specs.Nets.{NamedPort, slot, NamedNet, Faces}
use Rattle.ol_net.specs.Parts.{arity}
use Rattle.ol_net.specs.declared.parts.Kind.{Kind}
use Rattle.ol_rules.proofs.FreshPairs.{linked_sym}
use Rattle.ol_law_levels.specs.Unblocked.{Change, rise, fall, ComesOut, Reaches, begins, along, rises, falls, alike}

-- the same contexts come out
abbrev pub Alike : List Change → List Change → Type 0
Alike v w = (d : Context) → ComesOut v d ↔ ComesOut w d

pub alike_rise : (k : Kind) (i s : ℕ) (v w : List Change) → Alike v w →
    Alike (rise k i s ∷ v) (rise k i s ∷ w)
alike_rise k i s v w h d =
    (λ t. (t.0, (h t.0).0 t.1, t.2), λ t. (t.0, (h t.0).1 t.1, t.2))

module _ {A : Type 0} (N : NamedNet A) where
  -- some context passes
  pub passes : {p : NamedPort A} {w : List Change} → Reaches N p w → (d : Context) × ComesOut w d
  passes (begins h) = (levels [], tt)
  passes (along r h) = passes r
  passes (rises {s = s} k i r h b) = let t = passes r in (up k i s t.0, (t.0, t.1, refl))
  passes (falls k i d r h b t) = (d, t)
  passes (alike r h) = let t = passes r in (t.0, (h t.0).0 t.1)

module _ {A : Type 0} (N : NamedNet A) (f g : A) (k : Kind) (i : ℕ) (l : Kind) (j : ℕ)
    (faces : Faces N f g k i l j) where
  -- up through one of the two and down through the other
  pub over_f : (s t : ℕ) (w : List Change) (c d : Context) → Reaches N (slot f (suc s)) w →
      s < arity k → t < arity l → ComesOut w c → up k i s c ≡ up l j t d →
      Reaches N (slot g (suc t)) (fall l j t ∷ rise k i s ∷ w)
  over_f s t w c d r b b' h e =
      falls l j d (along (rises k i r faces.first b) faces.linked) faces.second b' (c, h, e)

  pub over_g : (s t : ℕ) (w : List Change) (c d : Context) → Reaches N (slot g (suc t)) w →
      s < arity k → t < arity l → ComesOut w c → up l j t c ≡ up k i s d →
      Reaches N (slot f (suc s)) (fall k i s ∷ rise l j t ∷ w)
  over_g s t w c d r b b' h e =
      falls k i d (along (rises l j r faces.second b')
      (linked_sym N (slot f 0) (slot g 0) faces.linked)) faces.first b (c, h, e)

  -- where the two meet
  module _ (m : Meets k i l j) where
    alike_meet : (s : ℕ) (w : List Change) → s < arity k → s < arity l →
        Alike (fall l j s ∷ rise k i s ∷ w) w
    alike_meet s w b b' d = (
      λ t. subst (λ c. ComesOut w c)
          (injective k i s s t.0 d b b (t.2 ∙ sym (m.alike s d b))).1 t.1,
      λ h. (d, h, m.alike s d b),
    )

    alike_meet_back : (s : ℕ) (w : List Change) → s < arity k → s < arity l →
        Alike (fall k i s ∷ rise l j s ∷ w) w
    alike_meet_back s w b b' d = (
      λ t. subst (λ c. ComesOut w c)
          (injective l j s s t.0 d b' b' (t.2 ∙ m.alike s d b)).1 t.1,
      λ h. (d, h, sym (m.alike s d b)),
    )

    pub meet_on : (s : ℕ) (w : List Change) → s < arity k → Reaches N (slot f (suc s)) w →
        Reaches N (slot g (suc s)) w
    meet_on s w b r =
        let b' : s < arity l = subst (λ n. s < n) m.arities b in
        let t = passes N r in
        alike (over_f s s w t.0 t.0 r b b' t.1 (m.alike s t.0 b)) (alike_meet s w b b')

    pub meet_back : (s : ℕ) (w : List Change) → s < arity k → Reaches N (slot g (suc s)) w →
        Reaches N (slot f (suc s)) w
    meet_back s w b r =
        let b' : s < arity l = subst (λ n. s < n) m.arities b in
        let t = passes N r in
        alike (over_g s s w t.0 t.0 r b b' t.1 (sym (m.alike s t.0 b))) (alike_meet_back s w b b')

  -- where they cross
  module _ (n : ℕ) (m : Commutes k i l j n) where
    alike_up : (p q : ℕ) (w : List Change) → p < arity k → q < arity l →
        Alike (fall k i p ∷ rise l j q ∷ rise k i p ∷ w) (rise l n q ∷ w)
    alike_up p q w b b' d = (
      λ t.
          let x = t.1 in
          let e : up k i p (up l n q x.0) ≡ up k i p d =
          m.commute p q x.0 b b' ∙ ap (up l j q) x.2 ∙ t.2 in
          (x.0, x.1, (injective k i p p (up l n q x.0) d b b e).1),
      λ t. (
        up k i p t.0,
        (t.0, t.1, refl),
        sym (m.commute p q t.0 b b') ∙ ap (up k i p) t.2,
      ),
    )

    alike_down : (p q : ℕ) (w : List Change) → p < arity k → q < arity l →
        Alike (fall l j q ∷ rise k i p ∷ rise l n q ∷ w) (rise k i p ∷ w)
    alike_down p q w b b' d = (
      λ t.
          let x = t.1 in
          let e : up l j q (up k i p x.0) ≡ up l j q d =
          sym (m.commute p q x.0 b b') ∙ ap (up k i p) x.2 ∙ t.2 in
          (x.0, x.1, (injective l j q q (up k i p x.0) d b' b' e).1),
      λ t. (
        up l n q t.0,
        (t.0, t.1, refl),
        m.commute p q t.0 b b' ∙ ap (up l j q) t.2,
      ),
    )

    pub between_on : (p q : ℕ) (w : List Change) → p < arity k → q < arity l →
        Reaches N (slot g (suc q)) (rise k i p ∷ w) → Reaches N (slot f (suc p)) (rise l n q ∷ w)
    between_on p q w b b' r =
        let t = passes N r in
        alike (over_g p q (rise k i p ∷ w) t.0 (up l n q t.1.0) r b b' t.1
        (ap (up l j q) (sym t.1.2) ∙ sym (m.commute p q t.1.0 b b'))) (alike_up p q w b b')

    pub between_back : (p q : ℕ) (w : List Change) → p < arity k → q < arity l →
        Reaches N (slot f (suc p)) (rise l n q ∷ w) → Reaches N (slot g (suc q)) (rise k i p ∷ w)
    between_back p q w b b' r =
        let t = passes N r in
        alike (over_f p q (rise l n q ∷ w) t.0 (up k i p t.1.0) r b b' t.1
        (ap (up k i p) (sym t.1.2) ∙ m.commute p q t.1.0 b b')) (alike_down p q w b b')

    -- a walk that begins beside a copy
    pub begins_f : (p q : ℕ) → p < arity k → q < arity l →
        Reaches N (slot g (suc q)) (rise k i p ∷ [])
    begins_f p q b b' =
        alike (over_f p q [] (up l n q (levels [])) (up k i p (levels []))
        (begins (k, i, faces.first, b)) b b' tt (m.commute p q (levels []) b b')) same
      where
        same : Alike (fall l j q ∷ rise k i p ∷ []) (rise k i p ∷ [])
        same d = (
          λ t. (let x = m.pull p q t.0 d b b' t.2 in (x.0, tt, x.2)),
          λ t. (up l n q t.0, tt, m.commute p q t.0 b b' ∙ ap (up l j q) t.2),
        )

    pub begins_g : (p q : ℕ) → p < arity k → q < arity l →
        Reaches N (slot f (suc p)) (rise l n q ∷ [])
    begins_g p q b b' =
        alike (over_g p q [] (up k i p (levels [])) (up l n q (levels []))
        (begins (l, j, faces.second, b')) b b' tt (sym (m.commute p q (levels []) b b'))) same
      where
        same : Alike (fall k i p ∷ rise l j q ∷ []) (rise l n q ∷ [])
        same d = (
          λ t. (let x = m.pull p q d t.0 b b' (sym t.2) in (x.0, tt, x.1)),
          λ t. (up k i p t.0, tt, sym (m.commute p q t.0 b b') ∙ ap (up k i p) t.2),
        )

    -- down through a copy of f, which is there and back before
    pub falls_f : (p q : ℕ) (w : List Change) (d : Context) → p < arity k → q < arity l →
        Reaches N (slot g (suc q)) w → ComesOut w (up k i p d) →
        Reaches N (slot g (suc q)) (rise k i p ∷ fall k i p ∷ w)
    falls_f p q w d b b' r h =
        let e = m.commute p q d b b' in
        let r' = over_g p q w (up k i p d) (up l n q d) r b b' h (sym e) in
        alike (over_f p q (fall k i p ∷ rise l j q ∷ w) (up l n q d) (up k i p d) r' b b'
        (up k i p d, h, sym e) e) same
      where
        same : Alike (fall l j q ∷ rise k i p ∷ fall k i p ∷ rise l j q ∷ w)
            (rise k i p ∷ fall k i p ∷ w)
        same d = (
          λ t.
              let x = t.1 in
              let y = m.pull p q t.0 d b b' t.2 in
              let z : x.0 ≡ d = (injective l j q q x.0 d b' b' (x.2 ∙ t.2)).1 in
              (y.0, subst (λ c. ComesOut w c) (z ∙ sym y.2) x.1, y.2),
          λ t.
              let e : up k i p (up l n q t.0) ≡ up l j q d =
              m.commute p q t.0 b b' ∙ ap (up l j q) t.2 in (
                up l n q t.0,
                (up k i p t.0, t.1, sym (m.commute p q t.0 b b')),
                e,
              ),
        )

    pub falls_g : (p q : ℕ) (w : List Change) (d : Context) → p < arity k → q < arity l →
        Reaches N (slot f (suc p)) w → ComesOut w (up l n q d) →
        Reaches N (slot f (suc p)) (rise l n q ∷ fall l n q ∷ w)
    falls_g p q w d b b' r h =
        let e = m.commute p q d b b' in
        let r' = over_f p q w (up l n q d) (up k i p d) r b b' h e in
        alike (over_g p q (fall l j q ∷ rise k i p ∷ w) (up k i p d) (up l n q d) r' b b'
        (up l n q d, h, e) (sym e)) same
      where
        same : Alike (fall k i p ∷ rise l j q ∷ fall l j q ∷ rise k i p ∷ w)
            (rise l n q ∷ fall l n q ∷ w)
        same d = (
          λ t.
              let x = t.1 in
              let y = m.pull p q d t.0 b b' (sym t.2) in
              let z : x.0 ≡ d = (injective k i p p x.0 d b b (x.2 ∙ t.2)).1 in
              (y.0, subst (λ c. ComesOut w c) (z ∙ sym y.1) x.1, y.1),
          λ t.
              let e : up l j q (up k i p t.0) ≡ up k i p d =
              sym (m.commute p q t.0 b b') ∙ ap (up k i p) t.2 in (
                up k i p t.0,
                (up l n q t.0, t.1, m.commute p q t.0 b b'),
                e,
              ),
        )
