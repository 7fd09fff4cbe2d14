-- A row with a word has its applications and abstractions in pairs, and so it is read in one way.
use Rattle.std.proofs.Common.{◌≡◌, ℕ, ◌⊎◌, inl, inr, List, [], ◌∷◌, ◌++◌, refl, sym, ap, ◌∙◌, subst, arith}
use Rattle.std.proofs.lemmas.List.{append_assoc}
use Rattle.ol_net.specs.Nets.{NamedNet, HasNode, IsNet}
use Rattle.ol_net.specs.declared.parts.Kind.{Kind}
use Rattle.ol_net.specs.declared.parts.Kind.TheVariants as kind
use Rattle.ol_law_optimality.specs.Labels.{Label, atom, over, under}
use Rattle.ol_law_optimality.specs.Routes.{Crossing, rise, fall}
use Rattle.ol_law_optimality.specs.Words.{turned, Is, IsWire, at_binder, through, Reads, ends, body, argument}
use Rattle.ol_law_optimality.specs.Words.{WordIsOne}
use Rattle.ol_law_optimality.proofs.Rows.{turned_back, turned_append}

module _ {A : Type 0} (N : NamedNet A) where
  -- an application or an abstraction, or a node of sharing
  abbrev Main : A → Type 0
  Main x = Is N x kind.App ⊎ Is N x kind.Lam

  record Shared (x : A) : Type 0 where
    sort : Kind
    is : Is N x sort
    no_app : sort ≡ kind.App → ⊥
    no_lam : sort ≡ kind.Lam → ⊥

  -- crossings of sharing, and pairs
  data Balanced : List (Crossing A) → Type 0 where
    nothing : Balanced []
    up : {x : A} (s : ℕ) {w : List (Crossing A)} → Shared x → Balanced w → Balanced (rise x s ∷ w)
    down : {x : A} (s : ℕ) {w : List (Crossing A)} → Shared x → Balanced w → Balanced (fall x s ∷ w)
    paired : {x : A} (s : ℕ) (y : A) (r : ℕ) {v w : List (Crossing A)} → Main x → Main y →
        Balanced v → Balanced w → Balanced (rise x s ∷ (v ++ fall y r ∷ w))

  append : {v w : List (Crossing A)} → Balanced v → Balanced w → Balanced (v ++ w)
  append nothing c = c
  append (up s h b) c = up s h (append b c)
  append (down s h b) c = down s h (append b c)
  append {w = w} (paired {x = x} s y r {v = u} {w = t} h k b d) c =
      subst Balanced (ap (λ w. rise x s ∷ w) (sym (append_assoc u (fall y r ∷ t) w))) (paired s y r h k b (append d c))

  turn : {v : List (Crossing A)} → Balanced v → Balanced (turned v)
  turn nothing = nothing
  turn (up s h b) = append (turn b) (down s h nothing)
  turn (down s h b) = append (turn b) (up s h nothing)
  turn (paired {x = x} s y r {v = v} {w = w} h k b d) =
      let last : List (Crossing A) = fall x s ∷ [] in
      let first : List (Crossing A) = rise y r ∷ [] in
      let is : turned w ++ (rise y r ∷ (turned v ++ last)) ≡ turned (rise x s ∷ (v ++ fall y r ∷ w)) =
      sym (append_assoc (turned w) first (turned v ++ last))
      ∙ sym (append_assoc (turned w ++ first) (turned v) last)
      ∙ ap (λ u. u ++ last) (sym (turned_append v (fall y r ∷ w))) in
      subst Balanced is (append (turn d) (paired r x s k h (turn b) nothing))

  wire_balanced : {w v : List (Crossing A)} → IsWire N w → Balanced v → Balanced (w ++ v)
  wire_balanced at_binder b = b
  wire_balanced (through {s = s} k h f g w) b = up s
      (record { sort = k; is = h; no_app = f; no_lam = g }) (wire_balanced w b)

  module _ (letter : A → ℕ → ℕ) where
    balanced : {r : List (Crossing A)} {u : Label} → Reads N letter r u → Balanced r
    balanced ends = nothing
    balanced (body y z h k x t) = paired 0 z 0 (inl h) (inr k) (balanced x) (balanced t)
    balanced (argument y z w h k x t) = wire_balanced w (paired 1 y 1 (inr k) (inl h) (turn (balanced x)) (balanced t))

cons_one : {X : Type 0} {c d : X} {w v : List X} → c ∷ w ≡ d ∷ v → (c ≡ d) × (w ≡ v)
cons_one e = ((cc), (cc))

pub not_nil : {X : Type 0} (w : List X) (c : X) (v : List X) → [] ≡ w ++ (c ∷ v) → ⊥
not_nil [] c v e = absurd (cc)
not_nil (d ∷ w) c v e = absurd (cc)

module _ {A : Type 0} (N : NamedNet A) (n : IsNet N) where
  rise_one : {x y : A} {s r : ℕ} → ◌≡◌ {A = Crossing A} (rise x s) (rise y r) → (x ≡ y) × (s ≡ r)
  rise_one e = ((cc), (cc))

  fall_one : {x y : A} {s r : ℕ} → ◌≡◌ {A = Crossing A} (fall x s) (fall y r) → (x ≡ y) × (s ≡ r)
  fall_one e = ((cc), (cc))

  rise_fall : {x y : A} {s r : ℕ} → ◌≡◌ {A = Crossing A} (rise x s) (fall y r) → ⊥
  rise_fall e = absurd (cc)

  one_kind : {x y : A} {k l : Kind} → Is N x k → Is N y l → x ≡ y → k ≡ l
  one_kind {x} {y} {k} {l} h g e = (n.one_node x k l h.0 g.0 h.1 (subst (λ x. HasNode N x l g.0) (sym e) g.1)).0

  clash : {x y : A} → Main N x → Shared N y → x ≡ y → ⊥
  clash (inl h) g e = g.no_app (sym (one_kind h g.is e))
  clash (inr h) g e = g.no_lam (sym (one_kind h g.is e))

  -- ---- what comes before the first crossing that closes no pair is told

  record OneSplit (s s' : List (Crossing A)) (x x' : A) (i i' : ℕ) (t t' : List (Crossing A)) : Type 0 where
    before : s ≡ s'
    node : x ≡ x'
    slot : i ≡ i'
    after : t ≡ t'

  split_one : {s s' : List (Crossing A)} → Balanced N s → Balanced N s' →
      (x x' : A) (i i' : ℕ) (t t' : List (Crossing A)) → Main N x → Main N x' →
      s ++ (fall x i ∷ t) ≡ s' ++ (fall x' i' ∷ t') → OneSplit s s' x x' i i' t t'
  split_one nothing nothing x x' i i' t t' h h' e =
      let c = cons_one e in record { before = refl; node = (fall_one c.0).0; slot = (fall_one c.0).1; after = c.1 }
  split_one nothing (up s g b) x x' i i' t t' h h' e = absurd (rise_fall (sym (cons_one e).0))
  split_one nothing (down s g b) x x' i i' t t' h h' e = absurd (clash h g (fall_one (cons_one e).0).0)
  split_one nothing (paired s y r g k b d) x x' i i' t t' h h' e = absurd (rise_fall (sym (cons_one e).0))
  split_one (up s g b) nothing x x' i i' t t' h h' e = absurd (rise_fall (cons_one e).0)
  split_one (down s g b) nothing x x' i i' t t' h h' e = absurd (clash h' g (sym (fall_one (cons_one e).0).0))
  split_one (paired s y r g k b d) nothing x x' i i' t t' h h' e = absurd (rise_fall (cons_one e).0)
  split_one (up s g b) (down s' g' b') x x' i i' t t' h h' e = absurd (rise_fall (cons_one e).0)
  split_one (down s g b) (up s' g' b') x x' i i' t t' h h' e = absurd (rise_fall (sym (cons_one e).0))
  split_one (up s g b) (paired s' y r g' k b' d) x x' i i' t t' h h' e = absurd
      (clash g' g (sym (rise_one (cons_one e).0).0))
  split_one (paired s y r g k b d) (up s' g' b') x x' i i' t t' h h' e = absurd (clash g g' (rise_one (cons_one e).0).0)
  split_one (down s g b) (paired s' y r g' k b' d) x x' i i' t t' h h' e = absurd (rise_fall (sym (cons_one e).0))
  split_one (paired s y r g k b d) (down s' g' b') x x' i i' t t' h h' e = absurd (rise_fall (cons_one e).0)
  split_one (up {x = y} s {w = w} g b) (up {x = y'} s' g' b') x x' i i' t t' h h' e =
      let c = cons_one e in
      let o = split_one b b' x x' i i' t t' h h' c.1 in
      record {
        before = ap (λ d. d ∷ w) c.0 ∙ ap (λ w. rise y' s' ∷ w) o.before;
        node = o.node;
        slot = o.slot;
        after = o.after;
      }
  split_one (down {x = y} s {w = w} g b) (down {x = y'} s' g' b') x x' i i' t t' h h' e =
      let c = cons_one e in
      let o = split_one b b' x x' i i' t t' h h' c.1 in
      record {
        before = ap (λ d. d ∷ w) c.0 ∙ ap (λ w. fall y' s' ∷ w) o.before;
        node = o.node;
        slot = o.slot;
        after = o.after;
      }
  split_one (paired {x = z} s y r {v = v} {w = w} g k b d)
      (paired {x = z'} s' y' r' {v = v'} {w = w'} g' k' b' d') x x' i i' t t' h h' e =
      let c = cons_one e in
      let e1 = sym (append_assoc v (fall y r ∷ w) (fall x i ∷ t)) ∙ c.1
      ∙ append_assoc v' (fall y' r' ∷ w') (fall x' i' ∷ t') in
      let o = split_one b b' y y' r r' (w ++ fall x i ∷ t) (w' ++ fall x' i' ∷ t') k k' e1 in
      let l = split_one d d' x x' i i' t t' h h' o.after in
      record {
        before = ap (λ a. a ∷ (v ++ fall y r ∷ w)) c.0 ∙ ap (λ v. rise z' s' ∷ (v ++ fall y r ∷ w)) o.before
            ∙ ap (λ y. rise z' s' ∷ (v' ++ fall y r ∷ w)) o.node ∙ ap (λ w. rise z' s' ∷ (v' ++ fall y' r ∷ w)) l.before
            ∙ ap (λ r. rise z' s' ∷ (v' ++ fall y' r ∷ w')) o.slot;
        node = l.node;
        slot = l.slot;
        after = l.after;
      }

  -- ---- from an occurrence to its binder

  record OneWire (w w' : List (Crossing A)) (z z' : A) (t t' : List (Crossing A)) : Type 0 where
    wire : w ≡ w'
    binder : z ≡ z'
    after : t ≡ t'

  shared : {x : A} {k : Kind} → Is N x k → (k ≡ kind.App → ⊥) → (k ≡ kind.Lam → ⊥) → Shared N x
  shared {k = k} h f g = record { sort = k; is = h; no_app = f; no_lam = g }

  wire_one : {w w' : List (Crossing A)} → IsWire N w → IsWire N w' →
      (z z' : A) (t t' : List (Crossing A)) → Is N z kind.Lam → Is N z' kind.Lam →
      w ++ (rise z 1 ∷ t) ≡ w' ++ (rise z' 1 ∷ t') → OneWire w w' z z' t t'
  wire_one at_binder at_binder z z' t t' h h' e = let c = cons_one e in
      record { wire = refl; binder = (rise_one c.0).0; after = c.1 }
  wire_one at_binder (through k m f g w) z z' t t' h h' e = absurd
      (clash (inr h) (shared m f g) (rise_one (cons_one e).0).0)
  wire_one (through k m f g w) at_binder z z' t t' h h' e = absurd
      (clash (inr h') (shared m f g) (sym (rise_one (cons_one e).0).0))
  wire_one (through {x = x} {s = s} {w = u} k m f g w)
      (through {x = x'} {s = s'} {w = u'} k' m' f' g' w') z z' t t' h h' e =
      let c = cons_one e in
      let o = wire_one w w' z z' t t' h h' c.1 in
      record { wire = ap (λ d. d ∷ u) c.0 ∙ ap (λ u. rise x' s' ∷ u) o.wire; binder = o.binder; after = o.after }

  -- ---- so a row is read in one way

  module _ (letter : A → ℕ → ℕ) where
    body_apart : {w : List (Crossing A)} → IsWire N w → (y z : A) (t t' : List (Crossing A)) →
        Is N y kind.App → rise y 0 ∷ t ≡ w ++ (rise z 1 ∷ t') → ⊥
    body_apart at_binder y z t t' h e = let f = (rise_one (cons_one e).0).1 in omega arith
    body_apart (through k m f g w) y z t t' h e = clash (inl h) (shared m f g) (rise_one (cons_one e).0).0

    one_word : {r r' : List (Crossing A)} {u u' : Label} → Reads N letter r u → Reads N letter r' u' → r ≡ r' → u ≡ u'
    one_word ends ends e = refl
    one_word ends (body y z h k x t) e = absurd (cc)
    one_word ends (argument y z {w = w} {s = s} {r = r} m h k x t) e = absurd
        (not_nil w (rise z 1) (turned s ++ fall y 1 ∷ r) e)
    one_word (body y z h k x t) ends e = absurd (cc)
    one_word (argument y z {w = w} {s = s} {r = r} m h k x t) ends e = absurd
        (not_nil w (rise z 1) (turned s ++ fall y 1 ∷ r) (sym e))
    one_word (body y z {s = s} {r = r} h k x t) (argument y' z' {s = s'} {r = r'} m' h' k' x' t') e =
        absurd (body_apart m' y z' (s ++ fall z 0 ∷ r) (turned s' ++ fall y' 1 ∷ r') h e)
    one_word (argument y z {s = s} {r = r} m h k x t) (body y' z' {s = s'} {r = r'} h' k' x' t') e =
        absurd (body_apart m y' z (s' ++ fall z' 0 ∷ r') (turned s ++ fall y 1 ∷ r) h' (sym e))
    one_word (body y z {r = r} {v = v} {u = u} h k x t) (body y' z' {r = r'} {v = v'} {u = u'} h' k' x' t') e =
        let c = cons_one e in
        let o = split_one (balanced N letter x) (balanced N letter x') z z' 0 0 r r' (inr k) (inr k') c.1 in
        let ev = one_word x x' o.before in
        let eu = one_word t t' o.after in
        ap (λ y. over (atom (letter y 0) v) (atom (letter z 1) u)) (rise_one c.0).0
        ∙ ap (λ v. over (atom (letter y' 0) v) (atom (letter z 1) u)) ev
        ∙ ap (λ z. over (atom (letter y' 0) v') (atom (letter z 1) u)) o.node
        ∙ ap (λ u. over (atom (letter y' 0) v') (atom (letter z' 1) u)) eu
    one_word (argument y z {s = s} {r = r} {v = v} {u = u} m h k x t)
        (argument y' z' {s = s'} {r = r'} {v = v'} {u = u'} m' h' k' x' t') e =
        let c = wire_one m m' z z' (turned s ++ fall y 1 ∷ r) (turned s' ++ fall y' 1 ∷ r') k k' e in
        let o = split_one (turn N (balanced N letter x))
        (turn N (balanced N letter x')) y y' 1 1 r r' (inl h) (inl h') c.after in
        let ev = one_word x x' (sym (turned_back s) ∙ ap turned o.before ∙ turned_back s') in
        let eu = one_word t t' o.after in
        ap (λ y. under (atom (letter y 0) v) (atom (letter y 2) u)) o.node
        ∙ ap (λ v. under (atom (letter y' 0) v) (atom (letter y' 2) u)) ev
        ∙ ap (λ u. under (atom (letter y' 0) v') (atom (letter y' 2) u)) eu

module _ {A : Type 0} where
  pub word_is_one : WordIsOne A
  word_is_one N n letter s w v x y =
      let e = one_word N n letter x.2 y.2 refl in
      x.1 ∙ ap (atom (letter s.from 0)) e ∙ sym y.1
