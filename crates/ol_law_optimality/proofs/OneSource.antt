-- A row of the net after a step is made of one row of the net before it.
use Rattle.std.proofs.Common.{◌≡◌, ◌≢◌, ℕ, suc, ◌+◌, ◌<◌, List, [], ◌∷◌, refl, sym, ap, ◌∙◌, subst, arith}
use Rattle.ol_net.specs.Nets.{NamedPort, slot, NamedNet, HasNode, Linked, IsNet}
use Rattle.ol_net.specs.Parts.{arity}
use Rattle.ol_net.specs.declared.parts.Kind.{Kind}
use Rattle.ol_rules.specs.Laws.{IsFresh}
use Rattle.ol_rules.specs.Rewriting.{Action}
use Rattle.ol_law_optimality.specs.Routes.{Crossing, rise, fall, node_of, Row, along, rises, falls, Route}
use Rattle.ol_law_optimality.specs.Routes.{HasRoute, Residue, ends, ends_at_copy, passes, meets_up}
use Rattle.ol_law_optimality.specs.Routes.{meets_down, crosses_up, crosses_down, IsResidue}
use Rattle.ol_law_optimality.proofs.Ones as ones

module _ {A : Type 0} (N : NamedNet A) (is_net : IsNet N) where
  -- the ports by which a crossing is entered and left
  abbrev entered : Crossing A → NamedPort A
  entered (rise x s) = slot x (suc s)
  entered (fall x s) = slot x 0

  abbrev left_by : Crossing A → NamedPort A
  left_by (rise x s) = slot x 0
  left_by (fall x s) = slot x (suc s)

  abbrev slot_of : Crossing A → ℕ
  slot_of (rise x s) = s
  slot_of (fall x s) = s

  record First (p : NamedPort A) (c : Crossing A) (w : List (Crossing A)) (q : NamedPort A) :
      Type 0 where
    linked : Linked N p (entered c)
    kind_of : Kind
    index : ℕ
    has : HasNode N (node_of c) kind_of index
    within : slot_of c < arity kind_of
    rest : Row N (left_by c) w q

  first : {p q : NamedPort A} {v w : List (Crossing A)} {c : Crossing A} → Row N p v q → v ≡ c ∷ w →
      First p c w q
  first (along h) e = absurd (cc)
  first {q = q} {w = w} {c = c} (rises {p = p} {x = x} {s = s} {w = w'} k i l h b r) e =
      subst (λ c. First p c w q) (ones_first e) (subst (λ w. First p (rise x s) w q) (ones_rest e)
      (record { linked = l; kind_of = k; index = i; has = h; within = b; rest = r }))
    where
      ones_first : rise x s ∷ w' ≡ c ∷ w → rise x s ≡ c
      ones_first e = cc

      ones_rest : rise x s ∷ w' ≡ c ∷ w → w' ≡ w
      ones_rest e = cc
  first {q = q} {w = w} {c = c} (falls {p = p} {x = x} {s = s} {w = w'} k i l h b r) e =
      subst (λ c. First p c w q) (ones_first e) (subst (λ w. First p (fall x s) w q) (ones_rest e)
      (record { linked = l; kind_of = k; index = i; has = h; within = b; rest = r }))
    where
      ones_first : fall x s ∷ w' ≡ c ∷ w → fall x s ≡ c
      ones_first e = cc

      ones_rest : fall x s ∷ w' ≡ c ∷ w → w' ≡ w
      ones_rest e = cc

  last : {p q : NamedPort A} {v : List (Crossing A)} → Row N p v q → v ≡ [] → Linked N p q
  last (along h) e = h
  last (rises k i l h b r) e = absurd (cc)
  last (falls k i l h b r) e = absurd (cc)

  entered_node : (c d : Crossing A) → entered c ≡ entered d → node_of c ≡ node_of d
  entered_node (rise x s) (rise y t) e = cc
  entered_node (fall x s) (rise y t) e = cc
  entered_node (rise x s) (fall y t) e = cc
  entered_node (fall x s) (fall y t) e = cc

  number : (x y : A) (s n : ℕ) → ◌≡◌ {A = NamedPort A} (slot x s) (slot y n) → s ≡ n
  number x y s n e = cc

  module _ (born : ℕ → A) (fresh : IsFresh N born) (f g : A) (k l : Kind) (i j : ℕ)
      (hf : HasNode N f k i) (hg : HasNode N g l j) (a : Action) (apart : f ≢ g) where
    abbrev Rest : List (Crossing A) → A → List (Crossing A) → A → Type 0
    Rest w y v z = Residue born f g (arity l) a w y v z

    abbrev Shape : List (Crossing A) → A → List (Crossing A) → A → Type 0
    Shape w y v z = ones.Shape born f g (arity l) a apart w y v z

    bound_g : (s : ℕ) (m : Kind) (n : ℕ) → HasNode N g m n → s < arity m → s < arity l
    bound_g s m n h b = subst (λ m. s < arity m) (is_net.one_node g m l n j h hg).0 b

    one_port : (p q r : NamedPort A) → Linked N p q → Linked N p r → q ≡ r
    one_port p q r h h' = is_net.one_link p q r h h'

    not_there : (y : A) (n : ℕ) (p : NamedPort A) (s : ℕ) → Linked N p (slot y s) → y ≡ born n → ⊥
    not_there y n p s h e =
        let t = (is_net.of_ports p (slot y s) h).1 in fresh.unused y t.0 t.1 n t.2 e

    abbrev Same : List (Crossing A) → A → List (Crossing A) → A → Type 0
    Same w y w' y' = (w ≡ w') × (y ≡ y')

    behind : (c d : Crossing A) {w w' : List (Crossing A)} {y y' : A} → Same w y w' y' →
        Same (c ∷ d ∷ w) y (c ∷ d ∷ w') y'
    behind c d t = (ap (λ w. c ∷ d ∷ w) t.0, t.1)

    one : {w v : List (Crossing A)} {y z : A} → Rest w y v z → (p : NamedPort A) →
        Row N p w (slot y 0) → (w' : List (Crossing A)) (y' : A) → Row N p w' (slot y' 0) →
        Shape w' y' v z → Same w y w' y'
    one (ends d d') p r w' y' r' (ones.Shape.empty e n n' ev ez) = (sym e, ez)
    one {y = y} (ends d d') p r w' y' r' (ones.Shape.copied m j c e ey ev ez) =
        absurd (not_there y (arity l + m) p 0 (last r refl) ez)
    one (ends d d') p r w' y' r' (ones.Shape.passed c w2 v2 e n n' ev x) = absurd (cc)
    one {y = y} (ends d d') p r w' y' r' (ones.Shape.met_up s w2 c e x) =
        let o = number y f 0 (suc s) (one_port p (slot y 0) (slot f (suc s)) (last r refl)
        (first r' e).linked) in absurd (omega arith)
    one {y = y} (ends d d') p r w' y' r' (ones.Shape.met_down s w2 c e x) =
        let o = number y g 0 (suc s) (one_port p (slot y 0) (slot g (suc s)) (last r refl)
        (first r' e).linked) in absurd (omega arith)
    one (ends d d') p r w' y' r' (ones.Shape.crossed_up m q j w2 v2 c e ev x) = absurd (cc)
    one (ends d d') p r w' y' r' (ones.Shape.crossed_down m q j w2 v2 c e ev x) = absurd (cc)
    one (ends_at_copy {p = m} c) p r w' y' r' (ones.Shape.empty e n n' ev ez) =
        let o = number f y' (suc m) 0 (one_port p (slot f (suc m)) (slot y' 0)
        (first r refl).linked (last r' e)) in absurd (omega arith)
    one (ends_at_copy {p = m} c) p r w' y' r' (ones.Shape.copied m' j' c' e ey ev ez) =
        let o = number f f (suc m) (suc m') (one_port p (slot f (suc m)) (slot f (suc m'))
        (first r refl).linked (first r' e).linked) in
        let o' : m ≡ m' = omega arith in
        (ap (λ m. rise f m ∷ []) o' ∙ sym e, sym ey)
    one (ends_at_copy c) p r w' y' r' (ones.Shape.passed d w2 v2 e n n' ev x) = absurd (cc)
    one (ends_at_copy {j = j'} c) p r w' y' r' (ones.Shape.met_up s w2 d e x) =
        absurd (ones.not_both born f g (arity l) a apart j' d c)
    one (ends_at_copy {j = j'} c) p r w' y' r' (ones.Shape.met_down s w2 d e x) =
        absurd (ones.not_both born f g (arity l) a apart j' d c)
    one (ends_at_copy c) p r w' y' r' (ones.Shape.crossed_up m q j w2 v2 d e ev x) = absurd (cc)
    one (ends_at_copy c) p r w' y' r' (ones.Shape.crossed_down m q j w2 v2 d e ev x) = absurd (cc)
    one (passes d d' h) p r w' y' r' (ones.Shape.empty e n n' ev ez) = absurd (cc)
    one (passes d d' h) p r w' y' r' (ones.Shape.copied m j c e ey ev ez) = absurd (cc)
    one {y = y} {z = z} (passes {c = c} {w = w} {v = v} d d' h) p r w' y' r'
        (ones.Shape.passed c' w2 v2 e n n' ev x) =
        let o : c ≡ c' = ones.first_is born f g (arity l) a apart c c' v v2 ev in
        let o' : v ≡ v2 = ones.rest_is born f g (arity l) a apart c c' v v2 ev in
        let t = one h (left_by c) (first r refl).rest w2 y'
        (first r' (e ∙ ap (λ c. c ∷ w2) (sym o))).rest
        (ones.shape born f g (arity l) a apart (subst (λ v. Rest w2 y' v z) (sym o') x)) in
        (ap (λ w. c ∷ w) t.0 ∙ ap (λ c. c ∷ w2) o ∙ sym e, t.1)
    one (passes {c = c} d d' h) p r w' y' r' (ones.Shape.met_up s w2 m e x) =
        absurd (d (entered_node c (rise f s) (one_port p (entered c) (slot f (suc s))
        (first r refl).linked (first r' e).linked)))
    one (passes {c = c} d d' h) p r w' y' r' (ones.Shape.met_down s w2 m e x) =
        absurd (d' (entered_node c (rise g s) (one_port p (entered c) (slot g (suc s))
        (first r refl).linked (first r' e).linked)))
    one (passes {c = c} {v = v} d d' h) p r w' y' r' (ones.Shape.crossed_up m q j w2 v2 b e ev x) =
        let F = first r refl in
        absurd (fresh.unused (node_of c) F.kind_of F.index (arity l + m) F.has
        (ones.node_is born f g (arity l) a apart c (fall (born (arity l + m)) q) v
        (rise (born q) m ∷ v2) ev))
    one (passes {c = c} {v = v} d d' h) p r w' y' r' (ones.Shape.crossed_down m q j w2 v2 b e ev
        x) =
        let F = first r refl in
        absurd (fresh.unused (node_of c) F.kind_of F.index q F.has
        (ones.node_is born f g (arity l) a apart c (fall (born q) m) v
        (rise (born (arity l + m)) q ∷ v2) ev))
    one (meets_up {s = s} c h) p r w' y' r' (ones.Shape.empty e n n' ev ez) =
        let o = number f y' (suc s) 0 (one_port p (slot f (suc s)) (slot y' 0)
        (first r refl).linked (last r' e)) in absurd (omega arith)
    one (meets_up c h) p r w' y' r' (ones.Shape.copied m j c' e ey ev ez) =
        absurd (ones.not_both born f g (arity l) a apart j c c')
    one (meets_up {s = s} c h) p r w' y' r' (ones.Shape.passed c' w2 v2 e n n' ev x) =
        absurd (n (entered_node c' (rise f s) (one_port p (entered c') (slot f (suc s))
        (first r' e).linked (first r refl).linked)))
    one (meets_up {s = s} c h) p r w' y' r' (ones.Shape.met_up s' w2 c' e x) =
        let F = first r refl in
        let F' = first r' e in
        let o = number f f (suc s) (suc s') (one_port p (slot f (suc s)) (slot f (suc s')) F.linked
        F'.linked) in
        let o' : s' ≡ s = omega arith in
        let t = one h (slot g (suc s)) (first F.rest refl).rest w2 y'
        (first F'.rest (ap (λ s. fall g s ∷ w2) o')).rest
        (ones.shape born f g (arity l) a apart x) in
        let u = behind (rise f s) (fall g s) t in
        (u.0 ∙ ap (λ s. rise f s ∷ fall g s ∷ w2) (sym o') ∙ sym e, u.1)
    one (meets_up {s = s} c h) p r w' y' r' (ones.Shape.met_down s' w2 c' e x) =
        absurd (apart (entered_node (rise f s) (rise g s') (one_port p (slot f (suc s))
        (slot g (suc s')) (first r refl).linked (first r' e).linked)))
    one (meets_up c h) p r w' y' r' (ones.Shape.crossed_up m q j w2 v2 c' e ev x) =
        absurd (ones.not_both born f g (arity l) a apart j c c')
    one (meets_up c h) p r w' y' r' (ones.Shape.crossed_down m q j w2 v2 c' e ev x) =
        absurd (ones.not_both born f g (arity l) a apart j c c')
    one (meets_down {s = s} c h) p r w' y' r' (ones.Shape.empty e n n' ev ez) =
        let o = number g y' (suc s) 0 (one_port p (slot g (suc s)) (slot y' 0)
        (first r refl).linked (last r' e)) in absurd (omega arith)
    one (meets_down c h) p r w' y' r' (ones.Shape.copied m j c' e ey ev ez) =
        absurd (ones.not_both born f g (arity l) a apart j c c')
    one (meets_down {s = s} c h) p r w' y' r' (ones.Shape.passed c' w2 v2 e n n' ev x) =
        absurd (n' (entered_node c' (rise g s) (one_port p (entered c') (slot g (suc s))
        (first r' e).linked (first r refl).linked)))
    one (meets_down {s = s} c h) p r w' y' r' (ones.Shape.met_down s' w2 c' e x) =
        let F = first r refl in
        let F' = first r' e in
        let o = number g g (suc s) (suc s') (one_port p (slot g (suc s)) (slot g (suc s')) F.linked
        F'.linked) in
        let o' : s' ≡ s = omega arith in
        let t = one h (slot f (suc s)) (first F.rest refl).rest w2 y'
        (first F'.rest (ap (λ s. fall f s ∷ w2) o')).rest
        (ones.shape born f g (arity l) a apart x) in
        let u = behind (rise g s) (fall f s) t in
        (u.0 ∙ ap (λ s. rise g s ∷ fall f s ∷ w2) (sym o') ∙ sym e, u.1)
    one (meets_down {s = s} c h) p r w' y' r' (ones.Shape.met_up s' w2 c' e x) =
        absurd (apart (sym (entered_node (rise g s) (rise f s') (one_port p (slot g (suc s))
        (slot f (suc s')) (first r refl).linked (first r' e).linked))))
    one (meets_down c h) p r w' y' r' (ones.Shape.crossed_up m q j w2 v2 c' e ev x) =
        absurd (ones.not_both born f g (arity l) a apart j c c')
    one (meets_down c h) p r w' y' r' (ones.Shape.crossed_down m q j w2 v2 c' e ev x) =
        absurd (ones.not_both born f g (arity l) a apart j c c')
    one (crosses_up c h) p r w' y' r' (ones.Shape.empty e n n' ev ez) = absurd (cc)
    one (crosses_up c h) p r w' y' r' (ones.Shape.copied m j c' e ey ev ez) = absurd (cc)
    one (crosses_up {p = m} {q = q} {v = v} c h) p r w' y' r'
        (ones.Shape.passed c' w2 v2 e n n' ev x) =
        let F = first r' e in
        absurd (fresh.unused (node_of c') F.kind_of F.index (arity l + m) F.has
        (sym (ones.node_is born f g (arity l) a apart (fall (born (arity l + m)) q) c'
        (rise (born q) m ∷ v) v2 ev)))
    one (crosses_up {j = j'} c h) p r w' y' r' (ones.Shape.met_up s w2 d e x) =
        absurd (ones.not_both born f g (arity l) a apart j' d c)
    one (crosses_up {j = j'} c h) p r w' y' r' (ones.Shape.met_down s w2 d e x) =
        absurd (ones.not_both born f g (arity l) a apart j' d c)
    one {z = z} (crosses_up {p = m} {q = q} {v = v} c h) p r w' y' r'
        (ones.Shape.crossed_up m2 q2 j w2 v2 d e ev x) =
        let V = rise (born q) m ∷ v in
        let V2 = rise (born q2) m2 ∷ v2 in
        let c1 = fall (born (arity l + m)) q in
        let c2 = fall (born (arity l + m2)) q2 in
        let om = fresh.apart (arity l + m) (arity l + m2)
        (ones.node_is born f g (arity l) a apart c1 c2 V V2 ev) in
        let om' : m2 ≡ m = omega arith in
        let oq : q2 ≡ q = sym (ones.fall_slot born f g (arity l) a apart (born (arity l + m))
        (born (arity l + m2)) q q2 (ones.first_is born f g (arity l) a apart c1 c2 V V2 ev)) in
        let ov : v ≡ v2 = ones.rest_is born f g (arity l) a apart (rise (born q) m)
        (rise (born q2) m2) v v2 (ones.rest_is born f g (arity l) a apart c1 c2 V V2 ev) in
        let E : w' ≡ rise f m ∷ fall g q ∷ w2 =
        e ∙ ap (λ m. rise f m ∷ fall g q2 ∷ w2) om' ∙ ap (λ q. rise f m ∷ fall g q ∷ w2) oq in
        let t = one h (slot g (suc q)) (first (first r refl).rest refl).rest w2 y'
        (first (first r' E).rest refl).rest
        (ones.shape born f g (arity l) a apart (subst (λ v. Rest w2 y' v z) (sym ov) x)) in
        let u = behind (rise f m) (fall g q) t in
        (u.0 ∙ sym E, u.1)
    one (crosses_up {p = m} {q = q} {v = v} c h) p r w' y' r'
        (ones.Shape.crossed_down m2 q2 j w2 v2 d e ev x) =
        let F = first r' e in
        let b = bound_g q2 F.kind_of F.index F.has F.within in
        let o = fresh.apart (arity l + m) q2
        (ones.node_is born f g (arity l) a apart (fall (born (arity l + m)) q) (fall (born q2) m2)
        (rise (born q) m ∷ v) (rise (born (arity l + m2)) q2 ∷ v2) ev) in
        absurd (omega arith)
    one (crosses_down c h) p r w' y' r' (ones.Shape.empty e n n' ev ez) = absurd (cc)
    one (crosses_down c h) p r w' y' r' (ones.Shape.copied m j c' e ey ev ez) = absurd (cc)
    one (crosses_down {p = m} {q = q} {v = v} c h) p r w' y' r'
        (ones.Shape.passed c' w2 v2 e n n' ev x) =
        let F = first r' e in
        absurd (fresh.unused (node_of c') F.kind_of F.index q F.has
        (sym (ones.node_is born f g (arity l) a apart (fall (born q) m) c'
        (rise (born (arity l + m)) q ∷ v) v2 ev)))
    one (crosses_down {j = j'} c h) p r w' y' r' (ones.Shape.met_up s w2 d e x) =
        absurd (ones.not_both born f g (arity l) a apart j' d c)
    one (crosses_down {j = j'} c h) p r w' y' r' (ones.Shape.met_down s w2 d e x) =
        absurd (ones.not_both born f g (arity l) a apart j' d c)
    one (crosses_down {p = m} {q = q} {v = v} c h) p r w' y' r'
        (ones.Shape.crossed_up m2 q2 j w2 v2 d e ev x) =
        let F = first r refl in
        let b = bound_g q F.kind_of F.index F.has F.within in
        let o = fresh.apart q (arity l + m2)
        (ones.node_is born f g (arity l) a apart (fall (born q) m) (fall (born (arity l + m2)) q2)
        (rise (born (arity l + m)) q ∷ v) (rise (born q2) m2 ∷ v2) ev) in
        absurd (omega arith)
    one {z = z} (crosses_down {p = m} {q = q} {v = v} c h) p r w' y' r'
        (ones.Shape.crossed_down m2 q2 j w2 v2 d e ev x) =
        let V = rise (born (arity l + m)) q ∷ v in
        let V2 = rise (born (arity l + m2)) q2 ∷ v2 in
        let c1 = fall (born q) m in
        let c2 = fall (born q2) m2 in
        let oq : q2 ≡ q = sym (fresh.apart q q2
        (ones.node_is born f g (arity l) a apart c1 c2 V V2 ev)) in
        let om : m2 ≡ m = sym (ones.fall_slot born f g (arity l) a apart (born q) (born q2) m m2
        (ones.first_is born f g (arity l) a apart c1 c2 V V2 ev)) in
        let ov : v ≡ v2 = ones.rest_is born f g (arity l) a apart (rise (born (arity l + m)) q)
        (rise (born (arity l + m2)) q2) v v2 (ones.rest_is born f g (arity l) a apart c1 c2 V V2 ev)
        in
        let E : w' ≡ rise g q ∷ fall f m ∷ w2 =
        e ∙ ap (λ q. rise g q ∷ fall f m2 ∷ w2) oq ∙ ap (λ m. rise g q ∷ fall f m ∷ w2) om in
        let t = one h (slot f (suc m)) (first (first r refl).rest refl).rest w2 y'
        (first (first r' E).rest refl).rest
        (ones.shape born f g (arity l) a apart (subst (λ v. Rest w2 y' v z) (sym ov) x)) in
        let u = behind (rise g q) (fall f m) t in
        (u.0 ∙ sym E, u.1)

    pub one_source : (s s' u : Route A) → HasRoute N s → HasRoute N s' →
        IsResidue born f g (arity l) a s u → IsResidue born f g (arity l) a s' u → s ≡ s'
    one_source s s' u h h' x x' =
        go (ones.begins born f g (arity l) a apart x) (ones.begins born f g (arity l) a apart x')
      where
        Begins : Route A → Type 0
        Begins s = ones.Begins born f g (arity l) a apart s u

        all : s.from ≡ s'.from → (s.row ≡ s'.row) × (s.to ≡ s'.to) → s ≡ s'
        all e t =
            ones.route_is born f g (arity l) a apart s.from s'.from s.to s'.to s.row s'.row e t.0
            t.1

        clash : (s : Route A) → HasRoute N s → (n : ℕ) → s.from ≡ born n → ⊥
        clash s h n e = fresh.unused s.from _ h.i n h.application e

        go : ones.Begins born f g (arity l) a apart s u →
            ones.Begins born f g (arity l) a apart s' u → s ≡ s'
        go (ones.Begins.elsewhere d d' e r) (ones.Begins.elsewhere n n' e' r') =
            let o = sym e ∙ e' in
            all o (one r (slot s.from 0) h.row s'.row s'.to
            (subst (λ x. Row N (slot x 0) s'.row (slot s'.to 0)) (sym o) h'.row)
            (ones.shape born f g (arity l) a apart r'))
        go (ones.Begins.elsewhere d d' e r) (ones.Begins.at_g m j w c ex ey e' r') =
            absurd (clash s h (arity l + m) (sym e ∙ e'))
        go (ones.Begins.at_g m j w c ex ey e r) (ones.Begins.elsewhere d d' e' r') =
            absurd (clash s' h' (arity l + m) (sym e' ∙ e))
        go (ones.Begins.at_g m j w c ex ey e r) (ones.Begins.at_g m2 j2 w2 c2 ex2 ey2 e2 r2) =
            let o = fresh.apart (arity l + m) (arity l + m2) (sym e ∙ e2) in
            let o' : m2 ≡ m = omega arith in
            let E : s'.row ≡ fall f m ∷ w2 = ey2 ∙ ap (λ m. fall f m ∷ w2) o' in
            let t = one r (slot f (suc m)) (first h.row ey).rest w2 s'.to (first h'.row E).rest
            (ones.shape born f g (arity l) a apart r2) in
            all (ex ∙ sym ex2) (ey ∙ ap (λ w. fall f m ∷ w) t.0 ∙ sym E, t.1)
