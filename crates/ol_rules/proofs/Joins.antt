-- The lists of joins: what is in them, and that each end stands in them once.
use Rattle.std.proofs.Common.{◌≡◌, ◌≢◌, ℕ, suc, ◌+◌, ◌<◌, List, [], ◌∷◌, ◌++◌, Bool, true, ◌⊎◌, inl}
use Rattle.std.proofs.Common.{inr, refl, sym, ap, ◌∙◌, subst, arith}
use Rattle.ol_law_edges.proofs.Contraction.{is_other}
use Rattle.ol_law_edges.specs.Edges.{IsIn, ends, bit, IsTest}
use Rattle.ol_net.specs.Nets.{slot, NamedNet}
use Rattle.ol_net.specs.Parts.{arity}
use Rattle.ol_net.specs.declared.parts.Kind.{Kind}
use Rattle.ol_rules.proofs.EndCounts.{tally_none, tally_one, ends_append, ends_each}
use Rattle.ol_law_edges.proofs.Lists.{in_left, in_right, in_cases}
use Rattle.ol_rules.proofs.Lists.{in_each, in_each_of}
use Rattle.ol_rules.proofs.Tests.{vertex_test}
use Rattle.ol_rules.specs.Contracting.{Vertex, old, f_copy, g_copy, vertex_same, meeting_joins, crossing_joins}
use Rattle.ol_rules.proofs.Wires.{Join, meet, at_f, at_g, between}
use Rattle.ol_rules.specs.Listed.{each}
use Rattle.ol_rules.specs.Rewriting.{Action, meeting, crossing}

module _ {A : Type 0} (same : A → A → Bool) (t : IsTest same) (N : NamedNet A) (f g : A) (k : Kind)
    (i : ℕ) (l : Kind) (j : ℕ) where
  abbrev V : Type 0
  V = Vertex A

  abbrev vs : V → V → Bool
  vs = vertex_same same

  abbrev J : Action → V → V → Type 0
  J = Join N f g k i l j

  -- the list has these joins
  pub record HasJoins (a : Action) (js : List (V × V)) : Type 0 where
    pub sound : (u v : V) → IsIn (u, v) js → J a u v
    pub complete : (u v : V) → J a u v → IsIn (u, v) js
    pub once : (u v : V) → J a u v → (ends vs u js ≡ 1) × (ends vs v js ≡ 1)

  -- how often a vertex is an end of one edge
  at_edge : (v : V) (e : V × V) → ℕ
  at_edge v e = bit (vs v e.0) + bit (vs v e.1)

  one_row : (v : V) (e : V × V) → ends vs v (e ∷ []) ≡ at_edge v e
  unfolding at_edge
  one_row v e = omega arith

  no_end : (v : V) (e : V × V) → e.0 ≢ v → e.1 ≢ v → at_edge v e ≡ 0
  unfolding at_edge
  no_end v e m n =
      let a = ap bit (is_other vs (vertex_test same t) v e.0 m) in
      let b = ap bit (is_other vs (vertex_test same t) v e.1 n) in
      omega arith

  left_end : (v : V) (e : V × V) → e.0 ≡ v → e.1 ≢ v → at_edge v e ≡ 1
  unfolding at_edge
  left_end v e m n =
      let a = ap bit (subst (λ z. vs v z ≡ true) (sym m) ((vertex_test same t).holds v)) in
      let b = ap bit (is_other vs (vertex_test same t) v e.1 n) in
      omega arith

  right_end : (v : V) (e : V × V) → e.0 ≢ v → e.1 ≡ v → at_edge v e ≡ 1
  unfolding at_edge
  right_end v e m n =
      let a = ap bit (is_other vs (vertex_test same t) v e.0 m) in
      let b = ap bit (subst (λ z. vs v z ≡ true) (sym n) ((vertex_test same t).holds v)) in
      omega arith

  -- over rows of one edge each
  rows_none : (v : V) (n : ℕ) (e : ℕ → V × V) → ((s : ℕ) → at_edge v (e s) ≡ 0) → ends vs v (each n (λ s. e s ∷ [])) ≡ 0
  rows_none v n e h = ends_each vs v n (λ s. e s ∷ [])
      ∙ tally_none (λ s. ends vs v (e s ∷ [])) n (λ s b. one_row v (e s) ∙ h s)

  rows_one : (v : V) (n : ℕ) (e : ℕ → V × V) (s : ℕ) → s < n → at_edge v (e s) ≡ 1 →
      ((r : ℕ) → r ≢ s → at_edge v (e r) ≡ 0) → ends vs v (each n (λ s. e s ∷ [])) ≡ 1
  rows_one v n e s b h m = ends_each vs v n (λ s. e s ∷ [])
      ∙ tally_one (λ s. ends vs v (e s ∷ [])) n s b (one_row v (e s) ∙ h) (λ r q. one_row v (e r) ∙ m r q)

  module _ (apart : f ≢ g) where
    pub meets : arity k ≡ arity l → HasJoins meeting (meeting_joins f g (arity k))
    meets q = record { sound = sound; complete = complete; once = once }
      where
        e : ℕ → V × V
        e s = (old (slot f (suc s)), old (slot g (suc s)))

        sound : (u v : V) → IsIn (u, v) (meeting_joins f g (arity k)) → J meeting u v
        sound u v h = go (in_each_of (u, v) (arity k) (λ s. (old (slot f (suc s)), old (slot g (suc s))) ∷ []) h)
          where
            go : ((s : ℕ) × (s < arity k) × IsIn {X = V × V} (u, v)
                ((old (slot f (suc s)), old (slot g (suc s))) ∷ [])) → J meeting u v
            go (s, b, inl r) = subst (λ (d : V × V). J meeting d.0 d.1) (sym r) (meet b)
            go (s, b, inr r) = absurd r

        complete : (u v : V) → J meeting u v → IsIn (u, v) (meeting_joins f g (arity k))
        complete u v (meet {s = s} b) = in_each (u, v) (arity k)
            (λ s. (old (slot f (suc s)), old (slot g (suc s))) ∷ []) s b (inl refl)

        once : (u v : V) → J meeting u v → (ends vs u (meeting_joins f g (arity k)) ≡ 1)
            × (ends vs v (meeting_joins f g (arity k)) ≡ 1)
        once u v (meet {s = s} b) = (
          rows_one (old (slot f (suc s))) (arity k) (λ s. (old (slot f (suc s)), old (slot g (suc s)))) s b
              (left_end (old (slot f (suc s))) (old (slot f (suc s)), old (slot g (suc s))) refl (λ r. apart (cc)))
              (λ r m. no_end (old (slot f (suc s))) (old (slot f (suc r)), old (slot g (suc r)))
              (λ z. let y : suc r ≡ suc s = cc in m (omega arith)) (λ z. apart (cc))),
          rows_one (old (slot g (suc s))) (arity k) (λ s. (old (slot f (suc s)), old (slot g (suc s)))) s b
              (right_end (old (slot g (suc s))) (old (slot f (suc s)), old (slot g (suc s))) (λ r. apart (cc)) refl)
              (λ r m. no_end (old (slot g (suc s))) (old (slot f (suc r)), old (slot g (suc r)))
              (λ z. apart (cc)) (λ z. let y : suc r ≡ suc s = cc in m (omega arith))),
        )

    -- the three lists of a crossing
    at_g_rows : List (V × V)
    at_g_rows = each (arity l) (λ q. (f_copy q 0, old (slot g (suc q))) ∷ [])

    at_f_rows : List (V × V)
    at_f_rows = each (arity k) (λ p. (g_copy p 0, old (slot f (suc p))) ∷ [])

    row : ℕ → List (V × V)
    row q = each (arity k) (λ p. (f_copy q (suc p), g_copy p (suc q)) ∷ [])

    between_rows : List (V × V)
    unfolding row
    between_rows = each (arity l) row

    rows_are : crossing_joins f g (arity k) (arity l) ≡ at_g_rows ++ (at_f_rows ++ between_rows)
    unfolding at_g_rows at_f_rows between_rows
    rows_are = refl

    three : (v : V) (x y z : ℕ) → ends vs v at_g_rows ≡ x → ends vs v at_f_rows ≡ y →
        ends vs v between_rows ≡ z → ends vs v (crossing_joins f g (arity k) (arity l)) ≡ x + (y + z)
    three v x y z a b c =
        ap (ends vs v) rows_are ∙ ends_append vs v at_g_rows (at_f_rows ++ between_rows)
        ∙ ap (λ m. ends vs v at_g_rows + m) (ends_append vs v at_f_rows between_rows)
        ∙ ap (λ m. m + (ends vs v at_f_rows + ends vs v between_rows)) a
        ∙ ap (λ m. x + (m + ends vs v between_rows)) b ∙ ap (λ m. x + (y + m)) c

    no_g : (v : V) → ((q : ℕ) → (f_copy q 0 ≢ v) × (old (slot g (suc q)) ≢ v)) → ends vs v at_g_rows ≡ 0
    unfolding at_g_rows
    no_g v h = rows_none v (arity l) (λ q. (f_copy q 0, old (slot g (suc q))))
        (λ q. no_end v (f_copy q 0, old (slot g (suc q))) (h q).0 (h q).1)

    no_f : (v : V) → ((p : ℕ) → (g_copy p 0 ≢ v) × (old (slot f (suc p)) ≢ v)) → ends vs v at_f_rows ≡ 0
    unfolding at_f_rows
    no_f v h = rows_none v (arity k) (λ p. (g_copy p 0, old (slot f (suc p))))
        (λ p. no_end v (g_copy p 0, old (slot f (suc p))) (h p).0 (h p).1)

    no_row : (v : V) (q : ℕ) → ((p : ℕ) → (f_copy q (suc p) ≢ v) × (g_copy p (suc q) ≢ v)) → ends vs v (row q) ≡ 0
    unfolding row
    no_row v q h = rows_none v (arity k) (λ p. (f_copy q (suc p), g_copy p (suc q)))
        (λ p. no_end v (f_copy q (suc p), g_copy p (suc q)) (h p).0 (h p).1)

    no_between : (v : V) → ((q p : ℕ) → (f_copy q (suc p) ≢ v) × (g_copy p (suc q) ≢ v)) → ends vs v between_rows ≡ 0
    unfolding between_rows
    no_between v h = ends_each vs v (arity l) row
        ∙ tally_none (λ q. ends vs v (row q)) (arity l) (λ q b. no_row v q (h q))

    once_old_g : (q : ℕ) → q < arity l → ends vs (old (slot g (suc q))) (crossing_joins f g (arity k) (arity l)) ≡ 1
    unfolding at_g_rows
    once_old_g q b =
        let v : V = old (slot g (suc q)) in
        three (old (slot g (suc q))) 1 0 0
        (rows_one (old (slot g (suc q))) (arity l) (λ q. (f_copy q 0, old (slot g (suc q)))) q b
        (right_end (old (slot g (suc q))) (f_copy q 0, old (slot g (suc q))) (λ r. absurd (cc)) refl)
        (λ r m. no_end (old (slot g (suc q))) (f_copy r 0, old (slot g (suc r))) (λ z. absurd (cc))
        (λ z. let y : suc r ≡ suc q = cc in m (omega arith))))
        (no_f (old (slot g (suc q))) (λ p. ((λ z. absurd (cc)), (λ z. apart (cc)))))
        (no_between (old (slot g (suc q))) (λ q' p. ((λ z. absurd (cc)), (λ z. absurd (cc)))))

    once_f_0 : (q : ℕ) → q < arity l → ends vs (f_copy q 0) (crossing_joins f g (arity k) (arity l)) ≡ 1
    unfolding at_g_rows
    once_f_0 q b =
        three (f_copy q 0) 1 0 0
        (rows_one (f_copy q 0) (arity l) (λ q. (f_copy q 0, old (slot g (suc q)))) q b
        (left_end (f_copy q 0) (f_copy q 0, old (slot g (suc q))) refl (λ r. absurd (cc)))
        (λ r m. no_end (f_copy q 0) (f_copy r 0, old (slot g (suc r))) (λ z. m (cc)) (λ z. absurd (cc))))
        (no_f (f_copy q 0) (λ p. ((λ z. absurd (cc)), (λ z. absurd (cc)))))
        (no_between (f_copy q 0) (λ q' p. ((λ z. let y : suc p ≡ 0 = cc in absurd (omega arith)), (λ z. absurd (cc)))))

    once_old_f : (p : ℕ) → p < arity k → ends vs (old (slot f (suc p))) (crossing_joins f g (arity k) (arity l)) ≡ 1
    unfolding at_f_rows
    once_old_f p b =
        three (old (slot f (suc p))) 0 1 0
        (no_g (old (slot f (suc p))) (λ q. ((λ z. absurd (cc)), (λ z. apart (cc)))))
        (rows_one (old (slot f (suc p))) (arity k) (λ p. (g_copy p 0, old (slot f (suc p)))) p b
        (right_end (old (slot f (suc p))) (g_copy p 0, old (slot f (suc p))) (λ r. absurd (cc)) refl)
        (λ r m. no_end (old (slot f (suc p))) (g_copy r 0, old (slot f (suc r))) (λ z. absurd (cc))
        (λ z. let y : suc r ≡ suc p = cc in m (omega arith))))
        (no_between (old (slot f (suc p))) (λ q' p'. ((λ z. absurd (cc)), (λ z. absurd (cc)))))

    once_g_0 : (p : ℕ) → p < arity k → ends vs (g_copy p 0) (crossing_joins f g (arity k) (arity l)) ≡ 1
    unfolding at_f_rows
    once_g_0 p b =
        three (g_copy p 0) 0 1 0
        (no_g (g_copy p 0) (λ q. ((λ z. absurd (cc)), (λ z. absurd (cc)))))
        (rows_one (g_copy p 0) (arity k) (λ p. (g_copy p 0, old (slot f (suc p)))) p b
        (left_end (g_copy p 0) (g_copy p 0, old (slot f (suc p))) refl (λ r. absurd (cc)))
        (λ r m. no_end (g_copy p 0) (g_copy r 0, old (slot f (suc r))) (λ z. m (cc)) (λ z. absurd (cc))))
        (no_between (g_copy p 0) (λ q' p'. (
          (λ z. absurd (cc)),
          (λ z. let y : suc q' ≡ 0 = cc in absurd (omega arith)),
        )))

    once_f_s : (q p : ℕ) → q < arity l → p < arity k →
        ends vs (f_copy q (suc p)) (crossing_joins f g (arity k) (arity l)) ≡ 1
    unfolding between_rows row
    once_f_s q p b b' =
        three (f_copy q (suc p)) 0 0 1
        (no_g (f_copy q (suc p)) (λ q'. ((λ z. let y : 0 ≡ suc p = cc in absurd (omega arith)), (λ z. absurd (cc)))))
        (no_f (f_copy q (suc p)) (λ p'. ((λ z. absurd (cc)), (λ z. absurd (cc)))))
        (ends_each vs (f_copy q (suc p)) (arity l) row
        ∙ tally_one (λ q'. ends vs (f_copy q (suc p)) (row q')) (arity l) q b
        (rows_one (f_copy q (suc p)) (arity k) (λ p'. (f_copy q (suc p'), g_copy p' (suc q))) p b'
        (left_end (f_copy q (suc p)) (f_copy q (suc p), g_copy p (suc q)) refl (λ r. absurd (cc)))
        (λ r m. no_end (f_copy q (suc p)) (f_copy q (suc r), g_copy r (suc q))
        (λ z. let y : suc r ≡ suc p = cc in m (omega arith)) (λ z. absurd (cc))))
        (λ r m. no_row (f_copy q (suc p)) r (λ p'. ((λ z. m (cc)), (λ z. absurd (cc))))))

    once_g_s : (q p : ℕ) → q < arity l → p < arity k →
        ends vs (g_copy p (suc q)) (crossing_joins f g (arity k) (arity l)) ≡ 1
    unfolding between_rows row
    once_g_s q p b b' =
        three (g_copy p (suc q)) 0 0 1
        (no_g (g_copy p (suc q)) (λ q'. ((λ z. absurd (cc)), (λ z. absurd (cc)))))
        (no_f (g_copy p (suc q)) (λ p'. ((λ z. let y : 0 ≡ suc q = cc in absurd (omega arith)), (λ z. absurd (cc)))))
        (ends_each vs (g_copy p (suc q)) (arity l) row
        ∙ tally_one (λ q'. ends vs (g_copy p (suc q)) (row q')) (arity l) q b
        (rows_one (g_copy p (suc q)) (arity k) (λ p'. (f_copy q (suc p'), g_copy p' (suc q))) p b'
        (right_end (g_copy p (suc q)) (f_copy q (suc p), g_copy p (suc q)) (λ r. absurd (cc)) refl)
        (λ r m. no_end (g_copy p (suc q)) (f_copy q (suc r), g_copy r (suc q)) (λ z. absurd (cc)) (λ z. m (cc))))
        (λ r m. no_row (g_copy p (suc q)) r (λ p'.
        ((λ z. absurd (cc)), (λ z. let y : suc r ≡ suc q = cc in m (omega arith))))))

    pub crosses : (j' : ℕ) → HasJoins (crossing j') (crossing_joins f g (arity k) (arity l))
    unfolding at_g_rows at_f_rows between_rows row
    crosses j' = record { sound = sound; complete = complete; once = once }
      where
        sound_g : (u v : V) → ((s : ℕ) × (s < arity l)
            × IsIn {X = V × V} (u, v) ((f_copy s 0, old (slot g (suc s))) ∷ [])) → J (crossing j') u v
        sound_g u v (s, b, inl r) = subst (λ (d : V × V). J (crossing j') d.0 d.1) (sym r) (at_g b)
        sound_g u v (s, b, inr r) = absurd r

        sound_f : (u v : V) → ((s : ℕ) × (s < arity k)
            × IsIn {X = V × V} (u, v) ((g_copy s 0, old (slot f (suc s))) ∷ [])) → J (crossing j') u v
        sound_f u v (s, b, inl r) = subst (λ (d : V × V). J (crossing j') d.0 d.1) (sym r) (at_f b)
        sound_f u v (s, b, inr r) = absurd r

        sound_b : (u v : V) (q : ℕ) → q < arity l →
            ((s : ℕ) × (s < arity k) × IsIn {X = V × V} (u, v)
            ((f_copy q (suc s), g_copy s (suc q)) ∷ [])) → J (crossing j') u v
        sound_b u v q b (s, b', inl r) = subst (λ (d : V × V). J (crossing j') d.0 d.1) (sym r) (between b' b)
        sound_b u v q b (s, b', inr r) = absurd r

        sound_c : (u v : V) → ((q : ℕ) × (q < arity l) × IsIn {X = V × V} (u, v) (row q)) → J (crossing j') u v
        sound_c u v (q, b, r) = sound_b u v q b
            (in_each_of (u, v) (arity k) (λ p. (f_copy q (suc p), g_copy p (suc q)) ∷ []) r)

        sound : (u v : V) → IsIn (u, v) (crossing_joins f g (arity k) (arity l)) → J (crossing j') u v
        sound u v h = go (in_cases (u, v) at_g_rows (at_f_rows ++ between_rows) h)
          where
            go2 : IsIn (u, v) at_f_rows ⊎ IsIn (u, v) between_rows → J (crossing j') u v
            go2 (inl h) = sound_f u v (in_each_of (u, v) (arity k) (λ p. (g_copy p 0, old (slot f (suc p))) ∷ []) h)
            go2 (inr h) = sound_c u v (in_each_of (u, v) (arity l) row h)

            go : IsIn (u, v) at_g_rows ⊎ IsIn (u, v) (at_f_rows ++ between_rows) → J (crossing j') u v
            go (inl h) = sound_g u v (in_each_of (u, v) (arity l) (λ q. (f_copy q 0, old (slot g (suc q))) ∷ []) h)
            go (inr h) = go2 (in_cases (u, v) at_f_rows between_rows h)

        complete : (u v : V) → J (crossing j') u v → IsIn (u, v) (crossing_joins f g (arity k) (arity l))
        complete u v (at_g {q = q} b) = in_left (u, v) at_g_rows (at_f_rows ++ between_rows)
            (in_each (u, v) (arity l) (λ q. (f_copy q 0, old (slot g (suc q))) ∷ []) q b (inl refl))
        complete u v (at_f {p = p} b) = in_right (u, v) at_g_rows (at_f_rows ++ between_rows)
            (in_left (u, v) at_f_rows between_rows
            (in_each (u, v) (arity k) (λ p. (g_copy p 0, old (slot f (suc p))) ∷ []) p b (inl refl)))
        complete u v (between {p = p} {q = q} b b') = in_right (u, v) at_g_rows
            (at_f_rows ++ between_rows) (in_right (u, v) at_f_rows between_rows
            (in_each (u, v) (arity l) row q b' (in_each (u, v) (arity k)
            (λ p. (f_copy q (suc p), g_copy p (suc q)) ∷ []) p b (inl refl))))

        once : (u v : V) → J (crossing j') u v →
            (ends vs u (crossing_joins f g (arity k) (arity l)) ≡ 1)
            × (ends vs v (crossing_joins f g (arity k) (arity l)) ≡ 1)
        once u v (at_g {q = q} b) = (once_f_0 q b, once_old_g q b)
        once u v (at_f {p = p} b) = (once_g_0 p b, once_old_f p b)
        once u v (between {p = p} {q = q} b b') = (once_f_s q p b' b, once_g_s q p b' b)
