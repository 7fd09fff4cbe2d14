-- A walk over two nets: each step grows the pairs that have met, and keeps what was alike.
use Rattle.std.proofs.Common.{◌≡◌, ℕ, suc, ◌+◌, ◌-◌, ◌*◌, ◌/◌, ◌<◌, ◌≤◌, nat_lt, ◌⊎◌, inl, inr, refl, sym}
use Rattle.std.proofs.Common.{ap, ◌∙◌, subst, List, [], ◌∷◌, ◌++◌, length, Option, None, Some, arith, true, false, Bool}
use Rattle.std.proofs.lemmas.Bool.{cases_lt}
use Rattle.std.proofs.lemmas.Bool.Decides.{nat_tests}
use Rattle.std.proofs.lemmas.List.{append-nil, get_or_append_left, length-append}
use Rattle.ol_law_edges.specs.Edges.{IsIn}
use Rattle.ol_law_edges.proofs.Lists.{in_left, in_right, in_cases}
use Rattle.ol_net.specs.declared.parts.Port.{Port}
use Rattle.ol_net.specs.declared.parts.Port.TheVariants.{Free, Of}
use Rattle.ol_net.specs.Graph.{Graph, kind_at, partner_of}
use Rattle.ol_orders.specs.Meetings.{Answers, Finds}
use Rattle.ol_orders.specs.Walked.{IsMet, AreSo, AreSoAt, HasWalked}
use Rattle.ol_orders.specs.Same.{pair_at, port_on, AreNew, Meets, AreAlike, GoesOn, Walks, here, on}

-- each pair of the one list stands in the other
abbrev pub IsWithin : List (ℕ × ℕ) → List (ℕ × ℕ) → Type 0
IsWithin met met' = (e : ℕ × ℕ) → IsIn e met → IsIn e met'

-- what a step adds
abbrev pub Grows : Graph → Graph → List (ℕ × ℕ) → List (ℕ × ℕ) → Type 0
Grows a b met met' = (met' ≡ met)
    ⊎ ((x : ℕ) × (y : ℕ) × AreNew met x y × (kind_at a.nodes x ≡ kind_at b.nodes y) × (met' ≡ met ++ (x, y) ∷ []))

meets_grow : (a b : Graph) (met : List (ℕ × ℕ)) (x y : ℕ) (met' : List (ℕ × ℕ)) → Meets a b met x y met' →
    Grows a b met met'
meets_grow a b met x y met' (inl h) = inl h.1
meets_grow a b met x y met' (inr h) = inr (x, y, h.0, h.1, h.2)

meets_in : (a b : Graph) (met : List (ℕ × ℕ)) (x y : ℕ) (met' : List (ℕ × ℕ)) → Meets a b met x y met' →
    IsIn (x, y) met'
meets_in a b met x y met' (inl h) = subst (λ (m : List (ℕ × ℕ)). IsIn (x, y) m) (sym h.1) h.0
meets_in a b met x y met' (inr h) =
    subst (λ (m : List (ℕ × ℕ)). IsIn (x, y) m) (sym h.2) (in_right (x, y) met ((x, y) ∷ []) (inl refl))

pub alike_grow : (a b : Graph) (met : List (ℕ × ℕ)) (o p : Option Port) (met' : List (ℕ × ℕ)) →
    AreAlike a b met o p met' → Grows a b met met'
alike_grow a b met None None met' h = inl h
alike_grow a b met (Some (Free k)) (Some (Free l)) met' h = inl h.1
alike_grow a b met (Some (Of x s)) (Some (Of y t)) met' h = meets_grow a b met x.0 y.0 met' h.1
alike_grow a b met _ _ met' h = absurd h

pub alike_so : (a b : Graph) (met : List (ℕ × ℕ)) (o p : Option Port) (met' : List (ℕ × ℕ)) →
    AreAlike a b met o p met' → AreSo met' o p
alike_so a b met None None met' h = tt
alike_so a b met (Some (Free k)) (Some (Free l)) met' h = h.0
alike_so a b met (Some (Of x s)) (Some (Of y t)) met' h = (h.0, meets_in a b met x.0 y.0 met' h.1)
alike_so a b met _ _ met' h = absurd h

pub so_on : (met met' : List (ℕ × ℕ)) → IsWithin met met' → (o p : Option Port) → AreSo met o p → AreSo met' o p
so_on met met' w None None h = tt
so_on met met' w (Some (Free k)) (Some (Free l)) h = h
so_on met met' w (Some (Of x s)) (Some (Of y t)) h = (h.0, w (x.0, y.0) h.1)
so_on met met' w _ _ h = absurd h

-- what stands behind a list
abbrev Extends : List (ℕ × ℕ) → List (ℕ × ℕ) → Type 0
Extends met met' = (more : List (ℕ × ℕ)) × (met' ≡ met ++ more)

extended : (a b : Graph) (met met' : List (ℕ × ℕ)) → Grows a b met met' → Extends met met'
extended a b met met' (inl e) = ([], e ∙ sym (append-nil met))
extended a b met met' (inr g) = ((g.0, g.1) ∷ [], g.4)

-- the pair and the port at a place that the walk has passed
same_pair : (free : ℕ) (met more : List (ℕ × ℕ)) (k : ℕ) → free ≤ k → k < free + 3 * length met →
    pair_at free (met ++ more) k ≡ pair_at free met k
same_pair free met more k h l = get_or_append_left met more (0, 0) ((k - free) / 3) (omega arith)

free_port : (free x k : ℕ) → k < free → port_on free x k ≡ Free k
free_port free x k l = let t : nat_lt k free ≡ true = grind (arith, nat_tests) in rw t refl

-- by the pairs of a longer list the ports at a place passed are the same
moved : (a b : Graph) (met more m : List (ℕ × ℕ)) (k : ℕ) → k < a.free + 3 * length met →
    AreSo m (partner_of a (port_on a.free (pair_at a.free met k).0 k))
    (partner_of b (port_on a.free (pair_at a.free met k).1 k)) →
    AreSo m (partner_of a (port_on a.free (pair_at a.free (met ++ more) k).0 k))
    (partner_of b (port_on a.free (pair_at a.free (met ++ more) k).1 k))
moved a b met more m k l h = go (cases_lt k a.free)
  where
    go : (k < a.free) ⊎ (a.free ≤ k) →
        AreSo m (partner_of a (port_on a.free (pair_at a.free (met ++ more) k).0 k))
        (partner_of b (port_on a.free (pair_at a.free (met ++ more) k).1 k))
    go (inl f) =
        subst (λ (p : Port). AreSo m (partner_of a p)
        (partner_of b (port_on a.free (pair_at a.free (met ++ more) k).1 k)))
        (free_port a.free (pair_at a.free met k).0 k f
        ∙ sym (free_port a.free (pair_at a.free (met ++ more) k).0 k f))
        (subst (λ (p : Port). AreSo m (partner_of a (port_on a.free (pair_at a.free met k).0 k)) (partner_of b p))
        (free_port a.free (pair_at a.free met k).1 k f
        ∙ sym (free_port a.free (pair_at a.free (met ++ more) k).1 k f)) h)
    go (inr f) =
        subst (λ (e : ℕ × ℕ). AreSo m (partner_of a (port_on a.free e.0 k)) (partner_of b (port_on a.free e.1 k)))
        (sym (same_pair a.free met more k f l)) h

pub met_grow : (a b : Graph) (met met' : List (ℕ × ℕ)) → Grows a b met met' → IsMet a b met → IsMet a b met'
met_grow a b met met' (inl e) m = subst (IsMet a b) (sym e) m
met_grow a b met met' (inr g) m = subst (IsMet a b) (sym g.4) (record {
  one = λ u v w h h'. one u v w (in_cases (u, v) met ((g.0, g.1) ∷ []) h) (in_cases (u, w) met ((g.0, g.1) ∷ []) h');
  back = λ u v w h h'. back u v w (in_cases (u, w) met ((g.0, g.1) ∷ []) h) (in_cases (v, w) met ((g.0, g.1) ∷ []) h');
  kinds = λ u v h. kinds u v (in_cases (u, v) met ((g.0, g.1) ∷ []) h);
})
  where
    first : (u v : ℕ) → IsIn {X = ℕ × ℕ} (u, v) ((g.0, g.1) ∷ []) → u ≡ g.0
    first u v (inl e) = ap (λ (p : ℕ × ℕ). p.0) e
    first u v (inr h) = absurd h

    second : (u v : ℕ) → IsIn {X = ℕ × ℕ} (u, v) ((g.0, g.1) ∷ []) → v ≡ g.1
    second u v (inl e) = ap (λ (p : ℕ × ℕ). p.1) e
    second u v (inr h) = absurd h

    one : (u v w : ℕ) → IsIn (u, v) met ⊎ IsIn {X = ℕ × ℕ} (u, v) ((g.0, g.1) ∷ []) →
        IsIn (u, w) met ⊎ IsIn {X = ℕ × ℕ} (u, w) ((g.0, g.1) ∷ []) → v ≡ w
    one u v w (inl h) (inl h') = m.one u v w h h'
    one u v w (inl h) (inr h') = absurd ((g.2 u v h).0 (first u w h'))
    one u v w (inr h) (inl h') = absurd ((g.2 u w h').0 (first u v h))
    one u v w (inr h) (inr h') = second u v h ∙ sym (second u w h')

    back : (u v w : ℕ) → IsIn (u, w) met ⊎ IsIn {X = ℕ × ℕ} (u, w) ((g.0, g.1) ∷ []) →
        IsIn (v, w) met ⊎ IsIn {X = ℕ × ℕ} (v, w) ((g.0, g.1) ∷ []) → u ≡ v
    back u v w (inl h) (inl h') = m.back u v w h h'
    back u v w (inl h) (inr h') = absurd ((g.2 u w h).1 (second v w h'))
    back u v w (inr h) (inl h') = absurd ((g.2 v w h').1 (second u w h))
    back u v w (inr h) (inr h') = first u w h ∙ sym (first v w h')

    kinds : (u v : ℕ) → IsIn (u, v) met ⊎ IsIn {X = ℕ × ℕ} (u, v) ((g.0, g.1) ∷ []) → kind_at a.nodes u ≡ kind_at b.nodes v
    kinds u v (inl h) = m.kinds u v h
    kinds u v (inr h) = ap (kind_at a.nodes) (first u v h) ∙ g.3 ∙ ap (kind_at b.nodes) (sym (second u v h))

longer : (met met' : List (ℕ × ℕ)) → Extends met met' → length met ≤ length met'
longer met met' e = let l : length met' ≡ length met + length e.0 = ap length e.1 ∙ length-append met e.0 in omega arith

so_after : (a b : Graph) (at : ℕ) (met more : List (ℕ × ℕ)) → at < a.free + 3 * length met →
    GoesOn a b met at (met ++ more) → HasWalked a b at met → (k : ℕ) → k < suc at → (k < at) ⊎ (at ≤ k) →
    AreSoAt a b (met ++ more) k
so_after a b at met more l g w k h (inl i) =
    moved a b met more (met ++ more) k (omega (arith, l, i))
    (so_on met (met ++ more) (λ p q. in_left p met more q) _ _ (w.so k i))
so_after a b at met more l g w k h (inr i) =
    let same : k ≡ at = omega (arith, h, i) in
    subst (λ (j : ℕ). AreSoAt a b (met ++ more) j) (sym same)
    (moved a b met more (met ++ more) at l (alike_so a b met _ _ (met ++ more) g))

-- one step on
pub walked_on : (a b : Graph) (at : ℕ) (met met' : List (ℕ × ℕ)) → at < a.free + 3 * length met →
    GoesOn a b met at met' → HasWalked a b at met → HasWalked a b (suc at) met'
walked_on a b at met met' l g w =
    let grows = alike_grow a b met _ _ met' g in
    let e = extended a b met met' grows in
    let more = e.0 in
    let n = longer met met' e in
    record {
      met_so = met_grow a b met met' grows w.met_so;
      so = λ k h. subst (λ (m : List (ℕ × ℕ)). AreSoAt a b m k) (sym e.1)
          (so_after a b at met more l (subst (λ (m : List (ℕ × ℕ)). GoesOn a b met at m) e.1 g) w k h (cases_lt k at));
      within = omega (arith, l, n);
    }

-- two new nodes of one kind and index meet, once the walk has come to its end
pub seeded : (a b : Graph) (at : ℕ) (met : List (ℕ × ℕ)) (x y : ℕ) → at ≤ a.free + 3 * length met →
    AreNew met x y → kind_at a.nodes x ≡ kind_at b.nodes y → HasWalked a b at met →
    HasWalked a b at (met ++ (x, y) ∷ [])
seeded a b at met x y l n k w =
    let more : List (ℕ × ℕ) = (x, y) ∷ [] in
    let m : length met ≤ length (met ++ more) = longer met (met ++ more) (more, refl) in
    record {
      met_so = met_grow a b met (met ++ more) (inr (x, y, n, k, refl)) w.met_so;
      so = λ j h. moved a b met more (met ++ more) j (omega (arith, l, h))
          (so_on met (met ++ more) (λ p q. in_left p met more q) _ _ (w.so j h));
      within = omega (arith, l, m);
    }

pub nothing_walked : (a b : Graph) → HasWalked a b 0 []
nothing_walked a b = record {
  met_so = record {
    one = λ x y z h h'. absurd h;
    back = λ x y z h h'. absurd h;
    kinds = λ x y h. absurd h;
  };
  so = λ k h. absurd (omega (arith, h));
  within = omega arith;
}

pub has_walked : (a b : Graph) (from : ℕ) (had : List (ℕ × ℕ)) → HasWalked a b from had →
    (at : ℕ) (met : List (ℕ × ℕ)) → Walks a b from had at met → HasWalked a b at met
has_walked a b from had h at met here = h
has_walked a b from had h at met (on {at = k} {met = m} w l g) =
    walked_on a b k m met l g (has_walked a b from had h k m w)

-- a walk stays within the slots of the nodes to which it came
pub walks_within : (a b : Graph) (from : ℕ) (had : List (ℕ × ℕ)) → from ≤ a.free + 3 * length had →
    (at : ℕ) (met : List (ℕ × ℕ)) → Walks a b from had at met → at ≤ a.free + 3 * length met
walks_within a b from had h at met here = h
walks_within a b from had h at met (on {at = k} {met = m} w l g) =
    let n = longer m met (extended a b m met (alike_grow a b m _ _ met g)) in
    omega (arith, l, n)

-- and where it is at their end, it is just there
pub walks_to_end : (a b : Graph) (from : ℕ) (had : List (ℕ × ℕ)) → from ≤ a.free + 3 * length had →
    (at : ℕ) (met : List (ℕ × ℕ)) → Walks a b from had at met → a.free + 3 * length met ≤ at →
    Walks a b from had (a.free + 3 * length met) met
walks_to_end a b from had h at met w l =
    let u = walks_within a b from had h at met w in
    let e : at ≡ a.free + 3 * length met = omega (arith, u, l) in
    subst (λ (k : ℕ). Walks a b from had k met) e w

-- one place of a walk, as it is looked at
module _ (a b : Graph) (from : ℕ) (had : List (ℕ × ℕ)) (at : ℕ) (met : List (ℕ × ℕ)) (w : Walks a b from had at met)
    (free n : ℕ) (f : free ≡ a.free) (size : n ≡ length met) (l : at < free + 3 * n)
    (x y : ℕ) (p q : Port) (e : ◌≡◌ {A = ℕ × ℕ} (x, y) (pair_at free met at)) (ep : p ≡ port_on free x at)
    (eq : q ≡ port_on free y at) where
  inside : at < a.free + 3 * length met
  inside = omega (arith, l, f, size)

  first_port : p ≡ port_on a.free (pair_at a.free met at).0 at
  first_port = ep ∙ ap (λ (z : ℕ). port_on free z at) (ap (λ (u : ℕ × ℕ). u.0) e)
      ∙ ap (λ (free : ℕ). port_on free (pair_at free met at).0 at) f

  second_port : q ≡ port_on a.free (pair_at a.free met at).1 at
  second_port = eq ∙ ap (λ (z : ℕ). port_on free z at) (ap (λ (u : ℕ × ℕ). u.1) e)
      ∙ ap (λ (free : ℕ). port_on free (pair_at free met at).1 at) f

  seen : (ok : Bool) (m : List (ℕ × ℕ)) → Answers (AreAlike a b met (partner_of a p) (partner_of b q)) ok m →
      Answers (GoesOn a b met at) ok m
  seen ok m h = subst (λ (p : Port). Answers (AreAlike a b met (partner_of a p)
      (partner_of b (port_on a.free (pair_at a.free met at).1 at))) ok m) first_port
      (subst (λ (q : Port). Answers (AreAlike a b met (partner_of a p) (partner_of b q)) ok m) second_port h)

  pub steps_on : (ok : Bool) (m : List (ℕ × ℕ)) → ok ≡ true →
      Answers (AreAlike a b met (partner_of a p) (partner_of b q)) ok m → Walks a b from had (at + 1) m
  steps_on ok m t h =
      let one : suc at ≡ at + 1 = omega arith in
      subst (λ (k : ℕ). Walks a b from had k m) one
      (on w inside (subst (λ (ok : Bool). Answers (GoesOn a b met at) ok m) t (seen ok m h)))

  pub stops_here : (ok : Bool) (m : List (ℕ × ℕ)) → ok ≡ false →
      Answers (AreAlike a b met (partner_of a p) (partner_of b q)) ok m → Finds a b from had (Some (p, q)) m
  stops_here ok m t h =
      (at, met, w, inside, subst (λ (ok : Bool). Answers (GoesOn a b met at) ok m) t (seen ok m h), first_port, second_port)
