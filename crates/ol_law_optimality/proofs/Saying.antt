-- A walk over a net from a principal port that lets nothing in goes one way, and what it reads is one word.
use Rattle.std.proofs.Common.{◌≡◌, ◌≢◌, ℕ, suc, ◌<◌, ◌⊎◌, inl, inr, List, [], ◌∷◌, ◌++◌, refl, sym, ap, ◌∙◌}
use Rattle.std.proofs.Common.{subst, arith, append-nil, nat_eq, nat_lt, eqb-true, true, false}
use Rattle.std.proofs.lemmas.Bool.Decides.{nat_tests}
use Rattle.std.proofs.lemmas.List.{append_assoc}
use Rattle.ol_context.proofs.Contexts.{injective}
use Rattle.ol_context.specs.Contexts.{Context, up}
use Rattle.ol_law_edges.specs.Edges.{Joined}
use Rattle.ol_law_edges.specs.Edges as edges
use Rattle.ol_net.specs.Nets.{NamedPort, slot, NamedNet, HasNode, Linked, IsNet}
use Rattle.ol_net.specs.Parts.{arity}
use Rattle.ol_net.specs.declared.parts.Kind.{Kind}
use Rattle.ol_net.specs.declared.parts.Kind.TheVariants as kind
use Rattle.ol_rules.proofs.FreshPairs.{linked_sym}
use Rattle.ol_law_optimality.specs.Redexes.{Carries}
use Rattle.ol_law_optimality.specs.Routes.{Crossing, rise, fall, Row}
use Rattle.ol_law_optimality.specs.Routes as routes
use Rattle.ol_law_optimality.proofs.Carrying.{rise_at, fall_at}
use Rattle.ol_law_optimality.specs.Signs.{Signs, reversed, Signed, nothing, shared_up, shared_down, to_function}
use Rattle.ol_law_optimality.specs.Signs.{from_function}
use Rattle.ol_law_optimality.specs.Signs.{to_body, from_body, from_variable, to_variable, to_argument, from_argument}
use Rattle.ol_law_optimality.specs.Readings.{Acting, moved}
use Rattle.ol_law_optimality.proofs.Hearing.{rising, Heard, linked, crossed}
use Rattle.ol_law_optimality.proofs.Motions.{moved_append, moved_back, moved_there}

module _ (N : NamedNet ℕ) (n : IsNet N) (letter : ℕ → ℕ → ℕ) where
  -- so many crossings from port p with context c, the port and the context after the last, and what is read
  pub data Says (p : NamedPort ℕ) (c : Context) : ℕ → NamedPort ℕ → Context → Signs → Type 0 where
    start : Says p c 0 p c []
    rises : {m x s : ℕ} {u : NamedPort ℕ} {d e : Context} {a : Signs} (k : Kind) (i : ℕ) → Says p c m u d a →
        Linked N u (slot x (suc s)) → HasNode N x k i → s < arity k → up k i s d ≡ e →
        Says p c (suc m) (slot x 0) e (a ++ rising letter k x s)
    falls : {m x s : ℕ} {u : NamedPort ℕ} {d e : Context} {a : Signs} (k : Kind) (i : ℕ) → Says p c m u d a →
        Linked N u (slot x 0) → HasNode N x k i → s < arity k → up k i s e ≡ d →
        Says p c (suc m) (slot x (suc s)) e (a ++ reversed (rising letter k x s))

  -- nothing leads in by the principal port
  abbrev pub Bars : ℕ → Context → Type 0
  Bars y d = (k : Kind) (i s : ℕ) → HasNode N y k i → (b : Context) → up k i s b ≡ d → ⊥

  no_slots : {x y s : ℕ} → ◌≡◌ {A = NamedPort ℕ} (slot x (suc s)) (slot y 0) → ⊥
  no_slots {s = s} e = let q : suc s ≡ 0 = cc in omega arith

  nodes_one : {x y s r : ℕ} → ◌≡◌ {A = NamedPort ℕ} (slot x s) (slot y r) → x ≡ y
  nodes_one e = cc

  slots_one : {x y s r : ℕ} → ◌≡◌ {A = NamedPort ℕ} (slot x (suc s)) (slot y (suc r)) → s ≡ r
  slots_one {s = s} {r = r} e = let q : suc s ≡ suc r = cc in omega arith

  record OneState (u u' : NamedPort ℕ) (d d' : Context) (a a' : Signs) : Type 0 where
    port : u ≡ u'
    context : d ≡ d'
    signs : a ≡ a'

  risen_one : {x x' s s' : ℕ} {d d' e e' : Context} {a a' : Signs} (k k' : Kind) (i i' : ℕ) → x ≡ x' → s ≡ s' →
      d ≡ d' → a ≡ a' →
      k ≡ k' → i ≡ i' → up k i s d ≡ e → up k' i' s' d' ≡ e' →
      OneState (slot x 0) (slot x' 0) e e' (a ++ rising letter k x s) (a' ++ rising letter k' x' s')
  risen_one {x} {x'} {s} {s'} {d} {d'} {a = a} {a' = a'} k k' i i' ex es ed ea ek ei f f' = record {
    port = ap (λ x. slot x 0) ex;
    context = sym f ∙ ap (λ k. up k i s d) ek ∙ ap (λ i. up k' i s d) ei ∙ ap (λ s. up k' i' s d) es
        ∙ ap (up k' i' s') ed ∙ f';
    signs = ap (λ a. a ++ rising letter k x s) ea ∙ ap (λ k. a' ++ rising letter k x s) ek
        ∙ ap (λ x. a' ++ rising letter k' x s) ex ∙ ap (λ s. a' ++ rising letter k' x' s) es;
  }

  fallen_one : {x x' s s' : ℕ} {d d' e e' : Context} {a a' : Signs} (k k' : Kind) (i i' : ℕ) → x ≡ x' → d ≡ d' →
      a ≡ a' →
      k ≡ k' → i ≡ i' → s < arity k → s' < arity k' → up k i s e ≡ d → up k' i' s' e' ≡ d' →
      OneState (slot x (suc s)) (slot x' (suc s')) e e' (a ++ reversed (rising letter k x s)) (a' ++ reversed
      (rising letter k' x' s'))
  fallen_one {x} {x'} {s} {s'} {d} {d'} {e} {e'} {a} {a'} k k' i i' ex ed ea ek ei low low' f f' =
      let g : up k' i' s e ≡ d = ap (λ i. up k' i s e) (sym ei) ∙ ap (λ k. up k i s e) (sym ek) ∙ f in
      let z = injective k' i' s s' e e' (subst (λ k. s < arity k) ek low) low' (g ∙ ed ∙ sym f') in
      record {
        port = ap (λ x. slot x (suc s)) ex ∙ ap (λ s. slot x' (suc s)) z.0;
        context = z.1;
        signs = ap (λ a. a ++ reversed (rising letter k x s)) ea ∙ ap (λ k. a' ++ reversed (rising letter k x s)) ek
            ∙ ap (λ x. a' ++ reversed (rising letter k' x s)) ex ∙ ap (λ s. a' ++ reversed (rising letter k' x' s)) z.0;
      }

  -- so many crossings lead to one place
  says_one : {p : NamedPort ℕ} {c : Context} {m m' : ℕ} {u u' : NamedPort ℕ} {d d' : Context} {a a' : Signs} →
      Says p c m u d a → Says p c m' u' d' a' → m ≡ m' → OneState u u' d d' a a'
  says_one start start e = record { port = refl; context = refl; signs = refl }
  says_one start (rises k i w l h low f) e = absurd (omega arith)
  says_one start (falls k i w l h low f) e = absurd (omega arith)
  says_one (rises k i w l h low f) start e = absurd (omega arith)
  says_one (falls k i w l h low f) start e = absurd (omega arith)
  says_one (rises {x = x} {s = s} {u = u} k i w l h low f) (rises {x = x'} {s = s'} {u = u'} k' i' w' l' h' low' f') e =
      let o = says_one w w' (omega arith) in
      let q : slot x (suc s) ≡ slot x' (suc s') = n.one_link u' (slot x (suc s)) (slot x' (suc s'))
      (subst (λ u. Linked N u (slot x (suc s))) o.port l) l' in
      let z = n.one_node x' k k' i i' (subst (λ x. HasNode N x k i) (nodes_one q) h) h' in
      risen_one k k' i i' (nodes_one q) (slots_one q) o.context o.signs z.0 z.1 f f'
  says_one (rises {x = x} {s = s} {u = u} k i w l h low f) (falls {x = x'} {u = u'} k' i' w' l' h' low' f') e =
      let o = says_one w w' (omega arith) in
      absurd (no_slots (n.one_link u' (slot x (suc s)) (slot x' 0) (subst (λ u. Linked N u (slot x
      (suc s))) o.port l) l'))
  says_one (falls {x = x} {u = u} k i w l h low f) (rises {x = x'} {s = s'} {u = u'} k' i' w' l' h' low' f') e =
      let o = says_one w w' (omega arith) in
      absurd (no_slots (sym (n.one_link u' (slot x 0) (slot x' (suc s')) (subst (λ u. Linked N u
      (slot x 0)) o.port l) l')))
  says_one (falls {x = x} {s = s} {u = u} k i w l h low f) (falls {x = x'} {s = s'} {u = u'} k' i' w' l' h' low' f') e =
      let o = says_one w w' (omega arith) in
      let q : slot x 0 ≡ slot x' 0 = n.one_link u' (slot x 0) (slot x' 0) (subst (λ u. Linked N u
      (slot x 0)) o.port l) l' in
      let z = n.one_node x' k k' i i' (subst (λ x. HasNode N x k i) (nodes_one q) h) h' in
      fallen_one k k' i i' (nodes_one q) o.context o.signs z.0 z.1 low low' f f'

  lower : (m k : ℕ) → m < suc k → (m ≡ k) ⊎ (m < k)
  lower m k e = elim (nat_eq m k) as (λ b. nat_eq m k ≡ b → (m ≡ k) ⊎ (m < k)) [
    | true ↦ λ t. inl (eqb-true m k t)
    | false ↦ λ t. inr (grind (arith, nat_tests, t, e))
  ] refl

  -- none goes on past a principal port that lets nothing in
  no_longer : {p : NamedPort ℕ} {c : Context} {m m' : ℕ} {u u' : NamedPort ℕ} {d d' : Context} {a a' : Signs} (y : ℕ) →
      Says p c m u d a → Linked N u (slot y 0) → Bars y d → Says p c m' u' d' a' → m < m' → ⊥
  no_longer y w l b start e = omega arith
  no_longer {p} {c} {m} {u = u} {d = d} y w l b (rises {m = k'} {x = x} {s = s} {u = v} k i w' l' h low f) e = by
      (λ f. no_longer y w l b w' f) (lower m k' e)
    where
      by : (m < k' → ⊥) → (m ≡ k') ⊎ (m < k') → ⊥
      by rec (inr f) = rec f
      by rec (inl q) =
          let o = says_one w w' q in
          no_slots (sym (n.one_link v (slot y 0) (slot x (suc s)) (subst (λ u. Linked N u (slot y 0)) o.port l) l'))
  no_longer {p} {c} {m} {u = u} {d = d} y w l b (falls {m = k'} {x = x} {s = s} {u = v} {d = d'} {e = e'} k i w'
      l' h low f) e = by (λ f. no_longer y w l b w' f) (lower m k' e)
    where
      by : (m < k' → ⊥) → (m ≡ k') ⊎ (m < k') → ⊥
      by rec (inr f) = rec f
      by rec (inl q) =
          let o = says_one w w' q in
          let z = nodes_one (n.one_link v (slot y 0) (slot x 0) (subst (λ u. Linked N u (slot y 0)) o.port l) l') in
          b k i s (subst (λ x. HasNode N x k i) (sym z) h) e' (f ∙ sym o.context)

  -- ---- a row reads what it says

  shared_still : (k : Kind) (x s : ℕ) → k ≢ kind.App → k ≢ kind.Lam → rising letter k x s ≡ []
  shared_still kind.App x s f g = absurd (f refl)
  shared_still kind.Lam x s f g = absurd (g refl)
  shared_still kind.Fan x s f g = refl
  shared_still kind.Croissant x s f g = refl
  shared_still kind.Bracket x s f g = refl
  shared_still kind.Eraser x s f g = refl

  -- the first crossing and the rest
  pub record FirstUp (x s : ℕ) (w : List (Crossing ℕ)) (a : Signs) : Type 0 where
    pub kind_is : Kind
    pub index : ℕ
    pub node : HasNode N x kind_is index
    pub after : Signs
    pub is : a ≡ rising letter kind_is x s ++ after
    pub rest : Signed N letter w after

  pub record FirstDown (x s : ℕ) (w : List (Crossing ℕ)) (a : Signs) : Type 0 where
    pub kind_is : Kind
    pub index : ℕ
    pub node : HasNode N x kind_is index
    pub after : Signs
    pub is : a ≡ reversed (rising letter kind_is x s) ++ after
    pub rest : Signed N letter w after

  pub first_up : {x s : ℕ} {w : List (Crossing ℕ)} {a : Signs} → Signed N letter (rise x s ∷ w) a → FirstUp x s w a
  first_up (shared_up {x = x} {s = s} {a = a} k h f g S) = record {
    kind_is = k;
    index = h.0;
    node = h.1;
    after = a;
    is = ap (λ g. g ++ a) (sym (shared_still k x s f g));
    rest = S;
  }
  first_up (to_function h S) = record { kind_is = kind.App; index = h.0; node = h.1; after = _; is = refl; rest = S }
  first_up (from_argument h S) = record { kind_is = kind.App; index = h.0; node = h.1; after = _; is = refl; rest = S }
  first_up (from_body h S) = record { kind_is = kind.Lam; index = h.0; node = h.1; after = _; is = refl; rest = S }
  first_up (from_variable h S) = record { kind_is = kind.Lam; index = h.0; node = h.1; after = _; is = refl; rest = S }

  pub first_down : {x s : ℕ} {w : List (Crossing ℕ)} {a : Signs} → Signed N letter (fall x s ∷ w) a → FirstDown x s w a
  first_down (shared_down {x = x} {s = s} {a = a} k h f g S) = record {
    kind_is = k;
    index = h.0;
    node = h.1;
    after = a;
    is = ap (λ g. reversed g ++ a) (sym (shared_still k x s f g));
    rest = S;
  }
  first_down (from_function h S) = record {
    kind_is = kind.App;
    index = h.0;
    node = h.1;
    after = _;
    is = refl;
    rest = S;
  }
  first_down (to_argument h S) = record { kind_is = kind.App; index = h.0; node = h.1; after = _; is = refl; rest = S }
  first_down (to_body h S) = record { kind_is = kind.Lam; index = h.0; node = h.1; after = _; is = refl; rest = S }
  first_down (to_variable h S) = record { kind_is = kind.Lam; index = h.0; node = h.1; after = _; is = refl; rest = S }

  record Said (p : NamedPort ℕ) (c : Context) (q : NamedPort ℕ) (d : Context) (a : Signs) : Type 0 where
    made : ℕ
    port : NamedPort ℕ
    says : Says p c made port d a
    there : Linked N port q

  pub no_signs : {a : Signs} → Signed N letter [] a → [] ≡ a
  no_signs nothing = refl

  row_says : {p q r : NamedPort ℕ} {w : List (Crossing ℕ)} {b c d : Context} {m : ℕ} {a g : Signs} →
      Says r b m p c g → Row N p w q → Signed N letter w a → Carries N c w d → Said r b q d (g ++ a)
  row_says {p = p} {r = r} {b = b} {c = c} {m = m} {a = a} {g = g} y (routes.along l) S e =
      record {
        made = m;
        port = p;
        says = subst (λ c. Says r b m p c (g ++ a)) e
            (subst (λ h. Says r b m p c h) (sym (append-nil g) ∙ ap (λ a. g ++ a) (no_signs S)) y);
        there = l;
      }
  row_says {q = q} {r = r} {w = rise x s ∷ w} {b = b} {c = c} {d = d} {g = g} y (routes.rises k i l h low row) S t =
      let f = first_up S in
      let z = rise_at N n x f.kind_is f.index f.node s w c d t in
      subst (Said r b q d) (append_assoc g (rising letter f.kind_is x s) f.after ∙ ap (λ a. g ++ a) (sym f.is))
      (row_says (rises f.kind_is f.index y l f.node z.0 refl) row f.rest z.1)
  row_says {q = q} {r = r} {w = fall x s ∷ w} {b = b} {c = c} {d = d} {g = g} y (routes.falls k i l h low row) S t =
      let f = first_down S in
      let z = fall_at N n x f.kind_is f.index f.node s w c d t in
      subst (Said r b q d) (append_assoc g (reversed (rising letter f.kind_is x s)) f.after
      ∙ ap (λ a. g ++ a) (sym f.is))
      (row_says (falls f.kind_is f.index y l f.node z.0 z.2) row f.rest z.3)

  -- ---- what moves lead to, it comes to

  module _ (r : Acting) (x0 : ℕ) (c0 : Context) (bar : Bars x0 c0) (y0 : Signs) where
    pub record Along (u : NamedPort ℕ) (d : Context) (y : Signs) : Type 0 where
      pub made : ℕ
      pub port : NamedPort ℕ
      pub signs : Signs
      pub says : Says (slot x0 0) c0 made port d signs
      pub there : Linked N port u ⊎ (port ≡ u)
      pub is : moved r signs y0 ≡ y

    link_along : (u q : NamedPort ℕ) (d : Context) (y : Signs) → Linked N u q → Along u d y → Along q d y
    link_along u q d y l a = record {
      made = a.made;
      port = a.port;
      signs = a.signs;
      says = a.says;
      there = by a.there;
      is = a.is;
    }
      where
        by : Linked N a.port u ⊎ (a.port ≡ u) → Linked N a.port q ⊎ (a.port ≡ q)
        by (inl h) = inr (n.one_link u a.port q (linked_sym N a.port u h) l)
        by (inr e) = inl (subst (λ v. Linked N v q) (sym e) l)

    cancelled : (g a : Signs) (y : Signs) → moved r (a ++ g) y0 ≡ moved r g y → moved r a y0 ≡ y
    cancelled g a y e =
        sym (moved_back r g (moved r a y0)) ∙ ap (moved r (reversed g)) (sym (moved_append r a g y0) ∙ e)
        ∙ moved_back r g y

    -- through a node from its principal port
    down_last : {m : ℕ} {v : NamedPort ℕ} {d : Context} {a : Signs} (k : Kind) (i x s : ℕ) (c : Context) (y : Signs) →
        Says (slot x0 0) c0 m v d a → v ≡ slot x 0 → HasNode N x k i → s < arity k → up k i s c ≡ d →
        moved r a y0 ≡ moved r (rising letter k x s) y → Along (slot x (suc s)) c y
    down_last k i x s c y start e h low f g = absurd (bar k i s (subst (λ x. HasNode N x k i) (sym
        (nodes_one e)) h) c f)
    down_last k i x s c y (rises {m = m} {x = x'} {s = s'} {u = u} {d = d'} {a = a} k' i' w l h' low' f') e h low f g =
        let ex = nodes_one e in
        let o = n.one_node x k k' i i' h (subst (λ x. HasNode N x k' i') ex h') in
        let f2 : up k i s' d' ≡ _ = ap (λ i. up k i s' d') o.1 ∙ ap (λ k. up k i' s' d') o.0 ∙ f' in
        let z = injective k i s s' c d' low (subst (λ k. s' < arity k) (sym o.0) low') (f ∙ sym f2) in
        let g2 : rising letter k' x' s' ≡ rising letter k x s =
        ap (λ k. rising letter k x' s') (sym o.0) ∙ ap (λ x. rising letter k x s') ex
        ∙ ap (λ s. rising letter k x s) (sym z.0) in
        record {
          made = m;
          port = u;
          signs = a;
          says = subst (λ c. Says (slot x0 0) c0 m u c a) (sym z.1) w;
          there = inl (subst (λ x. Linked N u (slot x (suc s))) ex (subst (λ s. Linked N u (slot x' (suc s)))
              (sym z.0) l));
          is = cancelled (rising letter k x s) a y (ap (λ q. moved r (a ++ q) y0) (sym g2) ∙ g);
        }
    down_last k i x s c y (falls k' i' w l h' low' f') e h low f g = absurd (no_slots e)

    down_along : (k : Kind) (i x s : ℕ) (c d : Context) (y z : Signs) → HasNode N x k i → s < arity k → up k i s c ≡ d →
        z ≡ moved r (rising letter k x s) y → Along (slot x 0) d z → Along (slot x (suc s)) c y
    down_along k i x s c d y z h low f g a = by a.there
      where
        by : Linked N a.port (slot x 0) ⊎ (a.port ≡ slot x 0) → Along (slot x (suc s)) c y
        by (inr e) = down_last k i x s c y a.says e h low f (a.is ∙ g)
        by (inl l) = record {
          made = suc a.made;
          port = slot x (suc s);
          signs = a.signs ++ reversed (rising letter k x s);
          says = falls k i a.says l h low f;
          there = inr refl;
          is = moved_append r a.signs (reversed (rising letter k x s)) y0
              ∙ ap (moved r (reversed (rising letter k x s))) (a.is ∙ g) ∙ moved_back r (rising letter k x s) y;
        }

    -- and to it
    up_last : {m : ℕ} {v : NamedPort ℕ} {c : Context} {a : Signs} (k : Kind) (i x s : ℕ) (d : Context) (y : Signs) →
        Says (slot x0 0) c0 m v c a → v ≡ slot x (suc s) → HasNode N x k i → up k i s c ≡ d →
        moved r a y0 ≡ y → Along (slot x 0) d (moved r (rising letter k x s) y)
    up_last k i x s d y start e h f g = absurd (no_slots (sym e))
    up_last k i x s d y (rises k' i' w l h' low' f') e h f g = absurd (no_slots (sym e))
    up_last {c = c} k i x s d y (falls {m = m} {x = x'} {s = s'} {u = u} {d = d'} {a = a} k' i' w l h' low' f') e
        h f g =
        let ex = nodes_one e in
        let es = slots_one e in
        let o = n.one_node x k k' i i' h (subst (λ x. HasNode N x k' i') ex h') in
        let f2 : up k i s c ≡ d' =
        ap (λ s. up k i s c) (sym es) ∙ ap (λ i. up k i s' c) o.1 ∙ ap (λ k. up k i' s' c) o.0 ∙ f' in
        let g2 : rising letter k' x' s' ≡ rising letter k x s =
        ap (λ k. rising letter k x' s') (sym o.0) ∙ ap (λ x. rising letter k x s') ex
        ∙ ap (λ s. rising letter k x s) es in
        record {
          made = m;
          port = u;
          signs = a;
          says = subst (λ c. Says (slot x0 0) c0 m u c a) (sym f2 ∙ f) w;
          there = inl (subst (λ x. Linked N u (slot x 0)) ex l);
          is = sym (moved_there r (rising letter k x s) (moved r a y0))
              ∙ ap (moved r (rising letter k x s)) (sym (moved_append r a (reversed (rising letter k x s)) y0)
              ∙ ap (λ q. moved r (a ++ reversed q) y0) (sym g2) ∙ g);
        }

    up_along : (k : Kind) (i x s : ℕ) (c d : Context) (y z : Signs) → HasNode N x k i → s < arity k → up k i s c ≡ d →
        z ≡ moved r (rising letter k x s) y → Along (slot x (suc s)) c y → Along (slot x 0) d z
    up_along k i x s c d y z h low f g a = subst (Along (slot x 0) d) (sym g) (by a.there)
      where
        by : Linked N a.port (slot x (suc s)) ⊎ (a.port ≡ slot x (suc s)) →
            Along (slot x 0) d (moved r (rising letter k x s) y)
        by (inr e) = up_last k i x s d y a.says e h f a.is
        by (inl l) = record {
          made = suc a.made;
          port = slot x 0;
          signs = a.signs ++ rising letter k x s;
          says = rises k i a.says l h low f;
          there = inr refl;
          is = moved_append r a.signs (rising letter k x s) y0 ∙ ap (moved r (rising letter k x s)) a.is;
        }

    pub all_along : {v : (NamedPort ℕ × Context) × Signs} → Joined (Heard N letter r) ((slot x0 0, c0), y0) v →
        Along v.0.0 v.0.1 v.1
    all_along edges.here = record { made = 0; port = slot x0 0; signs = []; says = start; there = inr refl; is = refl }
    all_along (edges.on j (linked {p = p} {q = q} {c = d} {y = y} l)) = link_along p q d y l (all_along j)
    all_along (edges.back j (linked {p = p} {q = q} {c = d} {y = y} l)) = link_along q p d y
        (linked_sym N p q l) (all_along j)
    all_along (edges.on j (crossed {x = x} {s = s} {c = c} {d = d} {y = y} {z = z} k i h low f g)) = down_along k
        i x s c d y z h low f g (all_along j)
    all_along (edges.back j (crossed {x = x} {s = s} {c = c} {d = d} {y = y} {z = z} k i h low f g)) = up_along k
        i x s c d y z h low f g (all_along j)

    -- no walk leaves by a principal port with a context that nothing leads in with
    pub not_left : {m : ℕ} {u : NamedPort ℕ} {d : Context} {a : Signs} (y : ℕ) → Says (slot x0 0) c0 m u d a →
        (x0 ≡ y → ⊥) →
        Bars y d → u ≡ slot y 0 → ⊥
    not_left y start f b e = f (nodes_one e)
    not_left y (rises {s = s} {d = d'} k i w l h low g) f b e = b k i s (subst (λ x. HasNode N x k i)
        (nodes_one e) h) d' g
    not_left y (falls k i w l h low g) f b e = no_slots e

  apart : (m k : ℕ) → (m ≡ k) ⊎ ((m < k) ⊎ (k < m))
  apart m k = elim (nat_eq m k) as (λ b. nat_eq m k ≡ b → (m ≡ k) ⊎ ((m < k) ⊎ (k < m))) [
    | true ↦ λ t. inl (eqb-true m k t)
    | false ↦ λ t. inr (elim (nat_lt m k) as (λ b. nat_lt m k ≡ b → (m < k) ⊎ (k < m)) [
      | true ↦ λ u. inl (grind (arith, nat_tests, u))
      | false ↦ λ u. inr (grind (arith, nat_tests, u, t))
    ] refl)
  ] refl

  compared : (r : Acting) (x y z : ℕ) (c d e : Context) (a s t : Signs) → Bars y d → Bars z e → (x ≡ z → ⊥) →
      Said (slot x 0) c (slot y 0) d a → {bx : Bars x c} → Along r x c bx s (slot z 0) e t → moved r a s ≡ t
  compared r x y z c d e a s t by' bz f R {bx} A = at A.there
    where
      which : Linked N A.port (slot z 0) → (R.made ≡ A.made) ⊎ ((R.made < A.made) ⊎ (A.made < R.made)) → moved r a s ≡ t
      which l (inl q) = ap (λ a. moved r a s) (says_one R.says A.says q).signs ∙ A.is
      which l (inr (inl q)) = absurd (no_longer y R.says R.there by' A.says q)
      which l (inr (inr q)) = absurd (no_longer z A.says l bz R.says q)

      at : Linked N A.port (slot z 0) ⊎ (A.port ≡ slot z 0) → moved r a s ≡ t
      at (inr q) = absurd (not_left r x c bx s z A.says f bz q)
      at (inl l) = which l (apart R.made A.made)

  -- What a row from one such port to another reads is what moves between them make of signs.
  pub row_is_heard : (r : Acting) (x y z : ℕ) (c d e : Context) (w : List (Crossing ℕ)) (a : Signs) (s t : Signs) →
      Bars x c → Bars y d → Bars z e → (x ≡ z → ⊥) → Row N (slot x 0) w (slot y 0) → Signed N letter w a →
      Carries N c w d →
      Joined (Heard N letter r) ((slot x 0, c), s) ((slot z 0, e), t) → moved r a s ≡ t
  row_is_heard r x y z c d e w a s t bx by' bz f row S k j =
      compared r x y z c d e a s t by' bz f (row_says start row S k) (all_along r x c bx s j)
