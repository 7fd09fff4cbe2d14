-- Different routes have different words.
use Rattle.std.proofs.Common.{◌≡◌, ℕ, zero, suc, List, ◌∷◌, ◌++◌, refl, sym, ap, ◌∙◌, subst, arith}
use Rattle.ol_net.specs.Nets.{NamedPort, slot, NamedNet, HasNode, IsNet}
use Rattle.ol_net.specs.declared.parts.Kind.{Kind}
use Rattle.ol_net.specs.declared.parts.Kind.TheVariants as kind
use Rattle.ol_law_optimality.specs.Labels.{Label, atom, over, under}
use Rattle.ol_law_optimality.specs.Routes.{Crossing, rise, fall, Row, rises, Route, HasRoute, IsBetaOf}
use Rattle.ol_law_optimality.proofs.Runs.{no_redex_is_copied}
use Rattle.ol_rules.specs.Runs.{IsRun}
use Rattle.ol_rules.specs.declared.journal.Entry.{Entry}
use Rattle.ol_rules.specs.declared.journal.NodeName.{NodeName}
use Rattle.ol_law_optimality.specs.Words.{turned, Is, IsWire, at_binder, through, Reads, ends, body}
use Rattle.ol_law_optimality.specs.Words.{argument, AreAtoms, WordsTellRoutes, BetasHaveTheirWords}
use Rattle.ol_law_optimality.proofs.Rows.{at_fall, at_rise, back_row, turned_back, one_end}

module _ {A : Type 0} (N : NamedNet A) (n : IsNet N) where
  -- ---- from an occurrence to its binder there is one way

  record OneBinder (w w' : List (Crossing A)) (z z' : A) : Type 0 where
    wires : w ≡ w'
    binder : z ≡ z'

  slots_one : {x y : A} {s r : ℕ} → ◌≡◌ {A = NamedPort A} (slot x (suc s)) (slot y (suc r)) → (x ≡ y) × (s ≡ r)
  slots_one {s = s} {r = r} e = let q : suc s ≡ suc r = cc in ((cc), (omega arith))

  apart : {x y : A} {k : Kind} → Is N x k → Is N y kind.Lam → (k ≡ kind.Lam → ⊥) → x ≡ y → ⊥
  apart {x} {y} {k} h h' f e = f (n.one_node x k kind.Lam h.0 h'.0 h.1
      (subst (λ x. HasNode N x kind.Lam h'.0) (sym e) h'.1)).0

  one_binder : {w w' : List (Crossing A)} → IsWire N w → IsWire N w' →
      (p q q' : NamedPort A) (z z' : A) (r r' : List (Crossing A)) → Is N z kind.Lam → Is N z' kind.Lam →
      Row N p (w ++ rise z 1 ∷ r) q → Row N p (w' ++ rise z' 1 ∷ r') q' → OneBinder w w' z z'
  one_binder at_binder at_binder p q q' z z' t t' h h' (rises k i l g b r) (rises k' i' l' g' b' r') =
      record { wires = refl; binder = (slots_one (n.one_link p (slot z 2) (slot z' 2) l l')).0 }
  one_binder at_binder (through {x = x} {s = s} k0 m f f' w) p q q' z z' t t' h h'
      (rises k i l g b r) (rises k' i' l' g' b' r') =
      absurd (apart m h f' (slots_one (n.one_link p (slot x (suc s)) (slot z 2) l' l)).0)
  one_binder (through {x = x} {s = s} k0 m f f' w) at_binder p q q' z z' t t' h h'
      (rises k i l g b r) (rises k' i' l' g' b' r') =
      absurd (apart m h' f' (slots_one (n.one_link p (slot x (suc s)) (slot z' 2) l l')).0)
  one_binder (through {x = x} {s = s} {w = u} k0 m f f' w)
      (through {x = x'} {s = s'} {w = u'} k0' m' g0 g0' w') p q q' z z' t t' h h'
      (rises k i l g b r) (rises k' i' l' g' b' r') =
      let e = slots_one (n.one_link p (slot x (suc s)) (slot x' (suc s')) l l') in
      let o = one_binder w w' (slot x 0) q q' z z' t t' h h' r
      (subst (λ x. Row N (slot x 0) (u' ++ rise z' 1 ∷ t') q') (sym e.0) r') in
      record {
        wires = ap (λ x. rise x s ∷ u) e.0 ∙ ap (λ s. rise x' s ∷ u) e.1
            ∙ ap (λ u. rise x' s' ∷ u) o.wires;
        binder = o.binder;
      }

  -- ---- words

  module _ (letter : A → ℕ → ℕ) (atoms : AreAtoms letter) where
    word_one : {m m' : ℕ} {u u' : Label} → ◌≡◌ {A = Label} (atom m u) (atom m' u') → (m ≡ m') × (u ≡ u')
    word_one e = ((cc), (cc))

    overs_one : {t t' u u' : Label} → ◌≡◌ {A = Label} (over t u) (over t' u') → (t ≡ t') × (u ≡ u')
    overs_one e = ((cc), (cc))

    unders_one : {t t' u u' : Label} → ◌≡◌ {A = Label} (under t u) (under t' u') → (t ≡ t') × (u ≡ u')
    unders_one e = ((cc), (cc))

    one_row : {r r' : List (Crossing A)} {u u' : Label} → Reads N letter r u →
        Reads N letter r' u' → u ≡ u' → (p q q' : NamedPort A) → Row N p r q → Row N p r' q' → r ≡ r'
    one_row ends ends e p q q' a b = refl
    one_row ends (body y0 z0 h k x y) e p q q' a b = absurd (cc)
    one_row ends (argument y0 z0 w h k x y) e p q q' a b = absurd (cc)
    one_row (body y0 z0 h k x y) ends e p q q' a b = absurd (cc)
    one_row (argument y0 z0 w h k x y) ends e p q q' a b = absurd (cc)
    one_row (body y0 z0 h k x y) (argument y1 z1 w h' k' x' y') e p q q' a b = absurd (cc)
    one_row (argument y0 z0 w h k x y) (body y1 z1 h' k' x' y') e p q q' a b = absurd (cc)
    one_row (body y z {s = s} {r = r} {v = v} {u = u} h k x t)
        (body y' z' {s = s'} {r = r'} {v = v'} {u = u'} h' k' x' t') e p q q' (rises _ _ _ _ _ a) (rises _ _ _ _ _ b) =
        let f = overs_one e in
        let g = word_one f.0 in
        let g' = word_one f.1 in
        let ey = (atoms y y' 0 0 g.0).0 in
        let ez = (atoms z z' 1 1 g'.0).0 in
        let c = at_fall N s a in
        let d = at_fall N s' b in
        let es = one_row x x' g.1 (slot y 0) (slot z 0) (slot z' 0) c.before
        (subst (λ y. Row N (slot y 0) s' (slot z' 0)) (sym ey) d.before) in
        let er = one_row t t' g'.1 (slot z 1) q q' c.after (subst (λ z. Row N (slot z 1) r' q') (sym ez) d.after) in
        ap (λ y. rise y 0 ∷ s ++ fall z 0 ∷ r) ey ∙ ap (λ s. rise y' 0 ∷ s ++ fall z 0 ∷ r) es
        ∙ ap (λ z. rise y' 0 ∷ s' ++ fall z 0 ∷ r) ez ∙ ap (λ r. rise y' 0 ∷ s' ++ fall z' 0 ∷ r) er
    one_row (argument y z {w = w} {s = s} {r = r} m h k x t)
        (argument y' z' {w = w'} {s = s'} {r = r'} m' h' k' x' t') e p q q' a b =
        let f = unders_one e in
        let g = word_one f.0 in
        let g' = word_one f.1 in
        let ey = (atoms y y' 0 0 g.0).0 in
        let o = one_binder m m' p q q' z z' (turned s ++ fall y 1 ∷ r) (turned s' ++ fall y' 1 ∷ r') k k' a b in
        let a1 = at_rise N w a in
        let b1 = at_rise N w' b in
        let c = at_fall N (turned s) a1.after in
        let d = at_fall N (turned s') b1.after in
        let ac = subst (λ v. Row N (slot y 0) v (slot z 0)) (turned_back s) (back_row N c.before) in
        let bd = subst (λ v. Row N (slot y' 0) v (slot z' 0)) (turned_back s') (back_row N d.before) in
        let es = one_row x x' g.1 (slot y 0) (slot z 0) (slot z' 0) ac
        (subst (λ y. Row N (slot y 0) s' (slot z' 0)) (sym ey) bd) in
        let er = one_row t t' g'.1 (slot y 2) q q' c.after (subst (λ y. Row N (slot y 2) r' q') (sym ey) d.after) in
        ap (λ w. w ++ rise z 1 ∷ (turned s ++ fall y 1 ∷ r)) o.wires
        ∙ ap (λ z. w' ++ rise z 1 ∷ (turned s ++ fall y 1 ∷ r)) o.binder
        ∙ ap (λ s. w' ++ rise z' 1 ∷ (turned s ++ fall y 1 ∷ r)) es
        ∙ ap (λ y. w' ++ rise z' 1 ∷ (turned s' ++ fall y 1 ∷ r)) ey
        ∙ ap (λ r. w' ++ rise z' 1 ∷ (turned s' ++ fall y' 1 ∷ r)) er

module _ {A : Type 0} where
  pub words_tell_routes : WordsTellRoutes A
  words_tell_routes N n letter atoms s t a b w x y =
      let e = word_one N n letter atoms (sym x.1 ∙ y.1) in
      let from = (atoms s.from t.from 0 0 e.0).0 in
      let b' = subst (λ x. Row N (slot x 0) t.row (slot t.to 0)) (sym from) b.row in
      let row = one_row N n letter atoms x.2 y.2 e.1 (slot s.from 0) (slot s.to 0) (slot t.to 0) a.row b' in
      let ports : slot s.to 0 ≡ slot t.to 0 = one_end N n
      (subst (λ r. Row N (slot s.from 0) r (slot s.to 0)) row a.row) b' in
      let to : s.to ≡ t.to = cc in
      ap (λ x. record { from = x; row = s.row; to = s.to }) from
      ∙ ap (λ r. record { from = t.from; row = r; to = s.to }) row
      ∙ ap (λ y. record { from = t.from; row = t.row; to = y }) to

has_route : {N M : NamedNet NodeName} {t : ℕ} {es : List Entry} (r : IsRun N t es M) (m : ℕ)
    (s : Route NodeName) → IsBetaOf r m s → HasRoute N s
has_route IsRun.end m s b = absurd b
has_route (IsRun.then h r) zero s b = b.1
has_route (IsRun.then h r) (suc m) s b = b.0

pub betas_have_words : BetasHaveTheirWords
betas_have_words N M t es n named r letter atoms m k s u b c w x y =
    let e = words_tell_routes N n letter atoms s u (has_route r m s b) (has_route r k u c) w x y in
    no_redex_is_copied N M t es n named r m k s b (subst (λ u. IsBetaOf r k u) (sym e) c)
