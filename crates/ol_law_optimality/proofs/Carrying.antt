-- What a step makes of a row leads on the contexts that the row leads on, and the other way round.
use Rattle.std.proofs.Common.{◌≡◌, ◌≢◌, ℕ, ◌+◌, ◌<◌, List, [], ◌∷◌, refl, sym, ap, ◌∙◌, subst}
use Rattle.ol_context.proofs.Contexts.{injective}
use Rattle.ol_context.specs.Contexts.{Context, up}
use Rattle.ol_invariance.proofs.Moves.{Meets, Commutes, Suits}
use Rattle.ol_net.specs.Nets.{NamedPort, NamedNet, HasNode, IsNet, Faces}
use Rattle.ol_net.specs.Parts.{arity}
use Rattle.ol_net.specs.declared.parts.Kind.{Kind}
use Rattle.ol_rules.specs.Rewriting.{Action, meeting, crossing, NodeOf, left, of_f, of_g, Rewrites}
use Rattle.ol_rules.specs.Laws.{IsFresh}
use Rattle.ol_law_optimality.specs.Redexes.{Carries}
use Rattle.ol_law_optimality.specs.Routes.{Crossing, rise, fall, node_of, Row, along, rises, falls, Residue, ends}
use Rattle.ol_law_optimality.specs.Routes.{ends_at_copy, passes, meets_up, meets_down, crosses_up, crosses_down}

module _ {A : Type 0} (N : NamedNet A) (is_net : IsNet N) where
  -- by the kind and index that a node has
  pub rise_at : (x : A) (k : Kind) (i : ℕ) → HasNode N x k i → (s : ℕ) (w : List (Crossing A))
      (c e : Context) → Carries N c (rise x s ∷ w) e →
      (s < arity k) × Carries N (up k i s c) w e
  rise_at x k i h s w c e t =
      let o = is_net.one_node x t.0 k t.1 i t.2 h in (
        subst (λ k. s < arity k) o.0 t.3,
        subst (λ i. Carries N (up k i s c) w e) o.1
            (subst (λ k. Carries N (up k t.1 s c) w e) o.0 t.4),
      )

  pub fall_at : (x : A) (k : Kind) (i : ℕ) → HasNode N x k i → (s : ℕ) (w : List (Crossing A))
      (c e : Context) → Carries N c (fall x s ∷ w) e →
      (s < arity k) × (b : Context) × (up k i s b ≡ c) × Carries N b w e
  fall_at x k i h s w c e t =
      let o = is_net.one_node x t.0 k t.1 i t.2 h in (
        subst (λ k. s < arity k) o.0 t.3,
        t.4,
        subst (λ i. up k i s t.4 ≡ c) o.1 (subst (λ k. up k t.1 s t.4 ≡ c) o.0 t.5),
        t.6,
      )

  -- the nodes of a row, with their kinds
  abbrev pub Within : Crossing A → Kind → Type 0
  Within (rise x s) k = s < arity k
  Within (fall x s) k = s < arity k

  abbrev pub AreIn : List (Crossing A) → Type 0
  AreIn [] = Unit {0}
  AreIn (c ∷ w) = (k : Kind) × (i : ℕ) × HasNode N (node_of c) k i × Within c k × AreIn w

  pub are_in : {p q : NamedPort A} {w : List (Crossing A)} → Row N p w q → AreIn w
  are_in (along h) = tt
  are_in (rises k i l h b r) = (k, i, h, b, are_in r)
  are_in (falls k i l h b r) = (k, i, h, b, are_in r)

module _ {A : Type 0} (N : NamedNet A) (f g : A) (k : Kind) (i : ℕ) (l : Kind) (j : ℕ)
    (a : Action) (born : ℕ → A) (is_net : IsNet N) (faces : Faces N f g k i l j)
    (fresh : IsFresh N born) (M : NamedNet A) (net_after : IsNet M)
    (rewrites : Rewrites born N f g k i l a M) (suits : Suits a k i l j) where
  meets : a ≡ meeting → Meets k i l j
  meets e = subst (λ a. Suits a k i l j) e suits

  commutes : (j' : ℕ) → a ≡ crossing j' → Commutes k i l j j'
  commutes j' e = subst (λ a. Suits a k i l j) e suits

  pub copy_of_f : (j' q : ℕ) → a ≡ crossing j' → q < arity l → HasNode M (born q) k i
  copy_of_f j' q e b = (rewrites.nodes (born q) k i).1 (of_f j' e b)

  pub copy_of_g : (j' p : ℕ) → a ≡ crossing j' → p < arity k → HasNode M (born (arity l + p)) l j'
  copy_of_g j' p e b = (rewrites.nodes (born (arity l + p)) l j').1 (of_g j' e b)

  pub still : (x : A) (m : Kind) (n : ℕ) → HasNode N x m n → x ≢ f → x ≢ g → HasNode M x m n
  still x m n h y z = (rewrites.nodes x m n).1 (left h y z)

  node_left : {x : A} {m : Kind} {n : ℕ} → NodeOf N born f g k i l a x m n → (m' : Kind) (n' : ℕ) →
      HasNode N x m' n' → HasNode N x m n
  node_left (left h y z) m' n' h' = h
  node_left {x} (of_f {q = q} j' e b) m' n' h' = absurd (fresh.unused x m' n' q h' refl)
  node_left {x} (of_g {p = p} j' e b) m' n' h' =
      absurd (fresh.unused x m' n' (arity l + p) h' refl)

  pub was : (x : A) (m : Kind) (n : ℕ) → HasNode M x m n → (m' : Kind) (n' : ℕ) →
      HasNode N x m' n' →
      HasNode N x m n
  was x m n h m' n' h' = node_left ((rewrites.nodes x m n).0 h) m' n' h'

  -- the end of a row before the step and after it
  pub data Ends (y z : A) (c d : Context) : Type 0 where
    the_same : z ≡ y → c ≡ d → y ≢ f → y ≢ g → Ends y z c d
    at_a_copy : (p j' : ℕ) → a ≡ crossing j' → p < arity k → y ≡ g → z ≡ born (arity l + p) →
        up k i p d ≡ c → Ends y z c d

  bound_f : (s : ℕ) (m : Kind) (n : ℕ) → HasNode N f m n → s < arity m → s < arity k
  bound_f s m n h b = subst (λ m. s < arity m) (is_net.one_node f m k n i h faces.first).0 b

  bound_g : (s : ℕ) (m : Kind) (n : ℕ) → HasNode N g m n → s < arity m → s < arity l
  bound_g s m n h b = subst (λ m. s < arity m) (is_net.one_node g m l n j h faces.second).0 b

  -- after the step: then before it
  pub carries_back : {w v : List (Crossing A)} {y z : A} → Residue born f g (arity l) a w y v z →
      AreIn N is_net w → (c d : Context) → Carries M c v d →
      (e : Context) × Carries N c w e × Ends y z e d
  carries_back (ends y y') r c d t = (d, t, the_same refl refl y y')
  carries_back (ends_at_copy {p = p} {j = j'} e) r c d t =
      let b = bound_f p r.0 r.1 r.2 r.3 in (
        up k i p c,
        (k, i, faces.first, b, refl),
        at_a_copy p j' e b refl refl
            (ap (up k i p) (sym t)),
      )
  carries_back (passes {c = rise x s} y y' h) r c d t =
      let o = carries_back h r.4 (up t.0 t.1 s c) d t.4 in
      (o.0, (t.0, t.1, was x t.0 t.1 t.2 r.0 r.1 r.2, t.3, o.1), o.2)
  carries_back (passes {c = fall x s} y y' h) r c d t =
      let o = carries_back h r.4 t.4 d t.6 in
      (o.0, (t.0, t.1, was x t.0 t.1 t.2 r.0 r.1 r.2, t.3, t.4, t.5, o.1), o.2)
  carries_back (meets_up {s = s} e h) r c d t =
      let o = carries_back h r.4.4 c d t in
      let b = bound_f s r.0 r.1 r.2 r.3 in
      let b' = bound_g s r.4.0 r.4.1 r.4.2 r.4.3 in (
        o.0,
        (k, i, faces.first, b, (l, j, faces.second, b', c, sym ((meets e).alike s c b), o.1)),
        o.2,
      )
  carries_back (meets_down {s = s} e h) r c d t =
      let o = carries_back h r.4.4 c d t in
      let b' = bound_g s r.0 r.1 r.2 r.3 in
      let b = bound_f s r.4.0 r.4.1 r.4.2 r.4.3 in (
        o.0,
        (l, j, faces.second, b', (k, i, faces.first, b, c, (meets e).alike s c b, o.1)),
        o.2,
      )
  carries_back (crosses_up {p = p} {q = q} {j = j'} {v = v} e h) r c d t =
      let b = bound_f p r.0 r.1 r.2 r.3 in
      let b' = bound_g q r.4.0 r.4.1 r.4.2 r.4.3 in
      let x = fall_at M net_after (born (arity l + p)) l j' (copy_of_g j' p e b) q
      (rise (born q) p ∷ v) c d t in
      let y = rise_at M net_after (born q) k i (copy_of_f j' q e b') p v x.1 d x.3 in
      let o = carries_back h r.4.4 (up k i p x.1) d y.1 in (
        o.0,
        (
          k,
          i,
          faces.first,
          b,
          (
            l,
            j,
            faces.second,
            b',
            up k i p x.1,
            sym ((commutes j' e).commute p q x.1 b b') ∙ ap (up k i p) x.2,
            o.1,
          ),
        ),
        o.2,
      )
  carries_back (crosses_down {p = p} {q = q} {j = j'} {v = v} e h) r c d t =
      let b' = bound_g q r.0 r.1 r.2 r.3 in
      let b = bound_f p r.4.0 r.4.1 r.4.2 r.4.3 in
      let x = fall_at M net_after (born q) k i (copy_of_f j' q e b') p
      (rise (born (arity l + p)) q ∷ v) c d t in
      let y = rise_at M net_after (born (arity l + p)) l j' (copy_of_g j' p e b) q v x.1 d x.3 in
      let o = carries_back h r.4.4 (up l j' q x.1) d y.1 in (
        o.0,
        (
          l,
          j,
          faces.second,
          b',
          (
            k,
            i,
            faces.first,
            b,
            up l j' q x.1,
            (commutes j' e).commute p q x.1 b b' ∙ ap (up l j q) x.2,
            o.1,
          ),
        ),
        o.2,
      )

  -- before the step: then after it
  pub carries_on : {w v : List (Crossing A)} {y z : A} → Residue born f g (arity l) a w y v z →
      (c e : Context) → Carries N c w e → (d : Context) × Carries M c v d × Ends y z e d
  carries_on (ends y y') c e t = (c, refl, the_same refl (sym t) y y')
  carries_on (ends_at_copy {p = p} {j = j'} q) c e t =
      let x = rise_at N is_net f k i faces.first p [] c e t in
      (c, refl, at_a_copy p j' q x.0 refl refl x.1)
  carries_on (passes {c = rise x s} y y' h) c e t =
      let o = carries_on h (up t.0 t.1 s c) e t.4 in
      (o.0, (t.0, t.1, still x t.0 t.1 t.2 y y', t.3, o.1), o.2)
  carries_on (passes {c = fall x s} y y' h) c e t =
      let o = carries_on h t.4 e t.6 in
      (o.0, (t.0, t.1, still x t.0 t.1 t.2 y y', t.3, t.4, t.5, o.1), o.2)
  carries_on (meets_up {s = s} {w = w} q h) c e t =
      let x = rise_at N is_net f k i faces.first s (fall g s ∷ w) c e t in
      let y = fall_at N is_net g l j faces.second s w (up k i s c) e x.1 in
      let same : y.1 ≡ c = (injective l j s s y.1 c y.0 y.0
      (y.2 ∙ (meets q).alike s c x.0)).1 in
      carries_on h c e (subst (λ b. Carries N b w e) same y.3)
  carries_on (meets_down {s = s} {w = w} q h) c e t =
      let x = rise_at N is_net g l j faces.second s (fall f s ∷ w) c e t in
      let y = fall_at N is_net f k i faces.first s w (up l j s c) e x.1 in
      let same : y.1 ≡ c = (injective k i s s y.1 c y.0 y.0
      (y.2 ∙ sym ((meets q).alike s c y.0))).1 in
      carries_on h c e (subst (λ b. Carries N b w e) same y.3)
  carries_on (crosses_up {p = p} {q = q} {j = j'} {w = w} m h) c e t =
      let x = rise_at N is_net f k i faces.first p (fall g q ∷ w) c e t in
      let y = fall_at N is_net g l j faces.second q w (up k i p c) e x.1 in
      let z = (commutes j' m).pull p q c y.1 x.0 y.0 (sym y.2) in
      let o = carries_on h (up k i p z.0) e (subst (λ b. Carries N b w e) (sym z.2) y.3) in (
        o.0,
        (l, j', copy_of_g j' p m x.0, y.0, z.0, z.1, (k, i, copy_of_f j' q m y.0, x.0, o.1)),
        o.2,
      )
  carries_on (crosses_down {p = p} {q = q} {j = j'} {w = w} m h) c e t =
      let x = rise_at N is_net g l j faces.second q (fall f p ∷ w) c e t in
      let y = fall_at N is_net f k i faces.first p w (up l j q c) e x.1 in
      let z = (commutes j' m).pull p q y.1 c y.0 x.0 y.2 in
      let o = carries_on h (up l j' q z.0) e (subst (λ b. Carries N b w e) (sym z.1) y.3) in (
        o.0,
        (k, i, copy_of_f j' q m x.0, y.0, z.0, z.2, (l, j', copy_of_g j' p m y.0, x.0, o.1)),
        o.2,
      )
