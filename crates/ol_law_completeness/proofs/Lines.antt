-- Loops: walks that come back to the port where they started, for each context of a family. If a net has a loop after a
-- step, it had a loop before. (As in Sources of `ol_law_optimality`, with contexts, and with any end.)
-- Used in Loops, LoopNames, Crossings, Rounds and Circling.
use Rattle.std.proofs.Common.{◌≡◌, ◌≢◌, ℕ, zero, suc, ◌+◌, ◌<◌, ◌≤◌, Bool, List, [], ◌∷◌, ◌++◌, refl}
use Rattle.std.proofs.Common.{sym, ap, ◌∙◌, subst, arith}
use Rattle.ol_context.specs.Contexts.{Context, up}
use Rattle.ol_invariance.proofs.Moves.{Meets, Commutes, Suits}
use Rattle.ol_law_edges.specs.Edges.{IsTest}
use Rattle.ol_net.specs.Nets.{NamedPort, slot, NamedNet, HasNode, Linked, IsNet, Faces}
use Rattle.ol_net.specs.Parts.{arity}
use Rattle.ol_net.specs.declared.parts.Kind.{Kind}
use Rattle.ol_net.specs.declared.parts.Kind.TheVariants as kind
use Rattle.ol_rules.proofs.FreshPairs.{linked_sym}
use Rattle.ol_rules.proofs.Ports.{Lasts, Real, named, name_one}
use Rattle.ol_rules.specs.Contracting.{Vertex, old, f_copy, g_copy}
use Rattle.ol_rules.specs.Laws.{IsFresh}
use Rattle.ol_rules.specs.Rewriting.{Action, meeting, crossing, NodeOf, left, of_f, of_g, Rewrites}
use Rattle.ol_law_optimality.specs.Routes.{Crossing, rise, fall}
use Rattle.ol_law_optimality.proofs.Sources.{arrives, beside}
use Rattle.ol_law_optimality.proofs.Trails.{At, at_old, at_f, at_g, Next, direct, to_f, to_g, by_f, by_g}
use Rattle.ol_law_optimality.proofs.Trails as trails

-- Having left port p, a walk makes these crossings, and has left port q.
pub data Line {A : Type 0} (N : NamedNet A) : NamedPort A → List (Crossing A) → NamedPort A → Type 0 where
  stop : {p : NamedPort A} → Line N p [] p
  rises : {p q : NamedPort A} {x : A} {s : ℕ} {w : List (Crossing A)} (k : Kind) (i : ℕ) →
      Linked N p (slot x (suc s)) → HasNode N x k i → s < arity k → Line N (slot x 0) w q →
      Line N p (rise x s ∷ w) q
  falls : {p q : NamedPort A} {x : A} {s : ℕ} {w : List (Crossing A)} (k : Kind) (i : ℕ) →
      Linked N p (slot x 0) → HasNode N x k i → s < arity k → Line N (slot x (suc s)) w q →
      Line N p (fall x s ∷ w) q

-- with context c at first, and d at last
abbrev pub Leads : {A : Type 0} {N : NamedNet A} {p q : NamedPort A} {w : List (Crossing A)} → Line N p w q → Context → Context → Type 0
Leads stop c d = c ≡ d
Leads (rises {s = s} k i l h b r) c d = Leads r (up k i s c) d
Leads (falls {s = s} k i l h b r) c d = (e : Context) × (up k i s e ≡ c) × Leads r e d

-- how many crossings go up
abbrev pub climbs : {A : Type 0} → List (Crossing A) → ℕ
climbs [] = 0
climbs (rise x s ∷ w) = suc (climbs w)
climbs (fall x s ∷ w) = climbs w

-- an application or an abstraction
abbrev pub marks : Kind → ℕ
marks kind.Lam = 1
marks kind.App = 1
marks kind.Fan = 0
marks kind.Croissant = 0
marks kind.Bracket = 0
marks kind.Eraser = 0

-- how many applications and abstractions are crossed on the way up; and on the way down
abbrev pub ups : {A : Type 0} {N : NamedNet A} {p q : NamedPort A} {w : List (Crossing A)} → Line N p w q → ℕ
ups stop = 0
ups (rises k i l h b r) = marks k + ups r
ups (falls k i l h b r) = ups r

abbrev pub downs : {A : Type 0} {N : NamedNet A} {p q : NamedPort A} {w : List (Crossing A)} → Line N p w q → ℕ
downs stop = 0
downs (rises k i l h b r) = downs r
downs (falls k i l h b r) = marks k + downs r

-- A walk comes back, whatever context there is in what it doesn't read. It goes up somewhere, and crosses applications and
-- abstractions no less often on the way up than on the way down.
pub record Loop {A : Type 0} (N : NamedNet A) : Type 0 where
  pub port : NamedPort A
  pub row : List (Crossing A)
  pub line : Line N port row port
  pub some : 1 ≤ climbs row
  pub at : Context → Context
  pub change : Context → Context
  pub leads : (c : Context) → Leads line (at c) (at (change c))
  pub balance : downs line ≤ ups line

pub climbs_both : {A : Type 0} (w v : List (Crossing A)) → climbs (w ++ v) ≡ climbs w + climbs v
climbs_both [] v = omega arith
climbs_both (rise x s ∷ w) v = let e = climbs_both w v in omega (arith, e)
climbs_both (fall x s ∷ w) v = climbs_both w v

module _ {A : Type 0} {N : NamedNet A} where
  abbrev pub append : {p q r : NamedPort A} {w v : List (Crossing A)} → Line N p w q → Line N q v r → Line N p (w ++ v) r
  append stop u = u
  append (rises k i l h b r) u = rises k i l h b (append r u)
  append (falls k i l h b r) u = falls k i l h b (append r u)

  pub leads_on : {p q r : NamedPort A} {w v : List (Crossing A)} (x : Line N p w q) (y : Line N q v r) (c d e : Context) →
      Leads x c d → Leads y d e → Leads (append x y) c e
  leads_on stop y c d e h g = subst (λ c. Leads y c e) (sym h) g
  leads_on (rises {s = s} k i l n b r) y c d e h g = leads_on r y (up k i s c) d e h g
  leads_on (falls {s = s} k i l n b r) y c d e h g = (h.0, h.1, leads_on r y h.0 d e h.2 g)

  pub ups_both : {p q r : NamedPort A} {w v : List (Crossing A)} (x : Line N p w q) (y : Line N q v r) →
      (ups (append x y) ≡ ups x + ups y) × (downs (append x y) ≡ downs x + downs y)
  ups_both stop y = (omega arith, omega arith)
  ups_both (rises k i l h b x) y = let e = ups_both x y in let f = e.0 in (omega (arith, f), e.1)
  ups_both (falls k i l h b x) y = let e = ups_both x y in let f = e.1 in (e.0, omega (arith, f))

module _ {A : Type 0} (N : NamedNet A) where
  -- what is left last
  pub record EndAt (q : NamedPort A) : Type 0 where
    pub node : A
    pub by : ℕ
    pub kind_is : Kind
    pub index : ℕ
    pub is : q ≡ slot node by
    pub there : HasNode N node kind_is index
    pub within : by ≤ arity kind_is

  end_after : {p q : NamedPort A} {w : List (Crossing A)} → EndAt p → Line N p w q → EndAt q
  end_after e stop = e
  end_after e (rises {x = x} k i l h b r) = end_after (record {
    node = x;
    by = 0;
    kind_is = k;
    index = i;
    is = refl;
    there = h;
    within = omega arith;
  }) r
  end_after e (falls {x = x} {s = s} k i l h b r) = end_after (record {
    node = x;
    by = suc s;
    kind_is = k;
    index = i;
    is = refl;
    there = h;
    within = omega (arith, b);
  }) r

  pub end_of : {p q : NamedPort A} {w : List (Crossing A)} → Line N p w q → 1 ≤ climbs w → EndAt q
  end_of stop h = absurd (omega (arith, h))
  end_of (rises {x = x} k i l n b r) h = end_after (record {
    node = x;
    by = 0;
    kind_is = k;
    index = i;
    is = refl;
    there = n;
    within = omega arith;
  }) r
  end_of (falls {x = x} {s = s} k i l n b r) h = end_after (record {
    node = x;
    by = suc s;
    kind_is = k;
    index = i;
    is = refl;
    there = n;
    within = omega (arith, b);
  }) r

  -- the same loop from the next port on, where it goes up first
  pub record Rotated : Type 0 where
    pub node : A
    pub kind_is : Kind
    pub index : ℕ
    pub there : HasNode N node kind_is index
    pub row : List (Crossing A)
    pub line : Line N (slot node 0) row (slot node 0)
    pub some : 1 ≤ climbs row
    pub at : Context → Context
    pub change : Context → Context
    pub leads : (c : Context) → Leads line (at c) (at (change c))
    pub balance : downs line ≤ ups line

  pub rotated : (p : NamedPort A) (x : A) (s : ℕ) (k : Kind) (i : ℕ) (w : List (Crossing A)) →
      (l : Linked N p (slot x (suc s))) (h : HasNode N x k i) (b : s < arity k) (r : Line N (slot x 0) w p)
      (at change : Context → Context) → ((c : Context) → Leads r (up k i s (at c)) (at (change c))) → downs r ≤ marks k + ups r → Rotated
  rotated p x s k i w l h b r at change leads balance = record {
    node = x;
    kind_is = k;
    index = i;
    there = h;
    row = w ++ rise x s ∷ [];
    line = append r (rises k i l h b stop);
    some = let e = climbs_both w (rise x s ∷ []) in omega (arith, e);
    at = λ c. up k i s (at c);
    change = change;
    leads = λ c. leads_on r (rises k i l h b stop) (up k i s (at c)) (at (change c)) (up k i s (at (change c))) (leads c) refl;
    balance = let e = ups_both r (rises k i l h b stop) in let f = e.0 in let g = e.1 in omega (arith, f, g, balance);
  }

module _ {A : Type 0} (N : NamedNet A) (f g : A) (k : Kind) (i : ℕ) (l : Kind) (j : ℕ)
    (a : Action) (born : ℕ → A) (same : A → A → Bool) (t : IsTest same) (is_net : IsNet N)
    (faces : Faces N f g k i l j) (fresh : IsFresh N born) (M : NamedNet A)
    (rewrites : Rewrites born N f g k i l a M) (alike : a ≡ meeting → arity k ≡ arity l) (equal : a ≡ meeting → marks k ≡ marks l)
    (quiet : (j' : ℕ) → a ≡ crossing j' → (k ≢ kind.Lam) × (k ≢ kind.App)) (suits : Suits a k i l j) where
  abbrev name : Vertex A → NamedPort A
  name u = named N f g k i l j a born u

  abbrev LastsHere : Vertex A → Type 0
  LastsHere u = Lasts N f g k i l j a born u

  abbrev RealHere : Vertex A → Type 0
  RealHere u = Real N f g k i l j a born u

  abbrev AtHere : Vertex A → NamedPort A → Type 0
  AtHere u p = At N f g k i l j a same t is_net faces u p

  abbrev NextHere : NamedPort A → Vertex A → Type 0
  NextHere p u = Next N f g k i l j a same t is_net faces p u

  meets : a ≡ meeting → Meets k i l j
  meets e = subst (λ a. Suits a k i l j) e suits

  commutes : (j' : ℕ) → a ≡ crossing j' → Commutes k i l j j'
  commutes j' e = subst (λ a. Suits a k i l j) e suits

  -- nodes of the net after the step
  node_left : {x : A} {m : Kind} {n : ℕ} → NodeOf N born f g k i l a x m n → (m' : Kind) (n' : ℕ) →
      HasNode N x m' n' → HasNode N x m n
  node_left (left h y z) m' n' h' = h
  node_left {x} (of_f {q = q} j' e b) m' n' h' = absurd (fresh.unused x m' n' q h' refl)
  node_left {x} (of_g {p = p} j' e b) m' n' h' = absurd (fresh.unused x m' n' (arity l + p) h' refl)

  node_f : {x : A} {m : Kind} {n : ℕ} → NodeOf N born f g k i l a x m n → (q : ℕ) → q < arity l →
      x ≡ born q → (m ≡ k) × (n ≡ i)
  node_f {x} {m} {n} (left h y z) q b e = absurd (fresh.unused x m n q h e)
  node_f (of_f j' c b') q b e = (refl, refl)
  node_f (of_g {p = p} j' c b') q b e = let z = fresh.apart (arity l + p) q e in absurd (omega arith)

  node_g : {x : A} {m : Kind} {n : ℕ} → NodeOf N born f g k i l a x m n → (p j' : ℕ) → a ≡ crossing j' →
      x ≡ born (arity l + p) → (m ≡ l) × (n ≡ j')
  node_g {x} {m} {n} (left h y z) p j' c e = absurd (fresh.unused x m n (arity l + p) h e)
  node_g (of_f {q = q} j2 c' b) p j' c e = let z = fresh.apart q (arity l + p) e in absurd (omega arith)
  node_g (of_g j2 c' b) p j' c e =
      let h : crossing j2 ≡ crossing j' = sym c' ∙ c in let h' : j2 ≡ j' = cc in (refl, h')

  node_of_new : (x : A) (m : Kind) (n : ℕ) → HasNode M x m n → NodeOf N born f g k i l a x m n
  node_of_new x m n h = (rewrites.nodes x m n).0 h

  f_to_g : Linked N (slot f 0) (slot g 0)
  f_to_g = faces.linked

  g_to_f : Linked N (slot g 0) (slot f 0)
  g_to_f = linked_sym N (slot f 0) (slot g 0) faces.linked

  at_one : {u u' : Vertex A} {p q : NamedPort A} → AtHere u p → AtHere u' q → u ≡ u' → p ≡ q
  at_one at_old at_old e = cc
  at_one at_old at_f e = absurd (cc)
  at_one at_old at_g e = absurd (cc)
  at_one at_f at_old e = absurd (cc)
  at_one (at_f {p = p}) (at_f {p = q}) e = let h : p ≡ q = cc in ap (λ n. slot f (suc n)) h
  at_one at_f at_g e = absurd (cc)
  at_one at_g at_old e = absurd (cc)
  at_one at_g at_f e = absurd (cc)
  at_one (at_g {q = p}) (at_g {q = q}) e = let h : p ≡ q = cc in ap (λ n. slot g (suc n)) h

  not_in_g : {u : Vertex A} {p : NamedPort A} → AtHere u p → {n s : ℕ} → u ≡ g_copy n (suc s) → ⊥
  not_in_g at_old e = absurd (cc)
  not_in_g at_f e = absurd (cc)
  not_in_g at_g e = absurd (cc)

  not_in_f : {u : Vertex A} {p : NamedPort A} → AtHere u p → {n s : ℕ} → u ≡ f_copy n (suc s) → ⊥
  not_in_f at_old e = absurd (cc)
  not_in_f at_f e = absurd (cc)
  not_in_f at_g e = absurd (cc)

  slot_node : (x y : A) (s n : ℕ) → ◌≡◌ {A = NamedPort A} (slot x s) (slot y n) → x ≡ y
  slot_node x y s n e = cc

  slot_number : (x y : A) (s n : ℕ) → ◌≡◌ {A = NamedPort A} (slot x s) (slot y n) → s ≡ n
  slot_number x y s n e = cc

  old_lasts : (x : A) (s : ℕ) (q : NamedPort A) → slot x s ≡ q → LastsHere (old q) → LastsHere (old (slot x s))
  old_lasts x s q e h = subst (λ q. LastsHere (old q)) (sym e) h

  beside_g : (s n : ℕ) {j' : ℕ} → a ≡ crossing j' → s < arity k → n < arity l →
      (p' q' : NamedPort A) → p' ≡ slot (born (arity l + s)) (suc n) → Linked M p' q' → q' ≡ slot (born n) (suc s)
  beside_g s n e b b' p' q' h link =
      beside N f g k i l j a born same t is_net faces fresh M rewrites alike quiet
      (g_copy s (suc n)) (f_copy n (suc s)) tt (trails.g_beside e b b') (λ p x. absurd (cc))
      (λ p x. absurd (cc)) p' q' h link

  beside_f : (s n : ℕ) {j' : ℕ} → a ≡ crossing j' → s < arity k → n < arity l →
      (p' q' : NamedPort A) → p' ≡ slot (born n) (suc s) → Linked M p' q' → q' ≡ slot (born (arity l + s)) (suc n)
  beside_f s n e b b' p' q' h link =
      beside N f g k i l j a born same t is_net faces fresh M rewrites alike quiet
      (f_copy n (suc s)) (g_copy s (suc n)) b' (trails.f_beside e b b') (λ p x. absurd (cc))
      (λ p x. absurd (cc)) p' q' h link

  -- walks that end where q has been left
  module _ (q' q : NamedPort A) (uq : Vertex A) (at_q : AtHere uq q) (real_q : RealHere uq) (is_q : q' ≡ name uq) where
    record Found (p : NamedPort A) {p' z : NamedPort A} {v : List (Crossing A)} (r : Line M p' v z) (change : Context → Context) (more lifts : ℕ) : Type 0 where
      w : List (Crossing A)
      line : Line N p w q
      long : climbs v ≤ more + climbs w
      leads : (c d : Context) → Leads r c d → Leads line (change c) d
      even : ups r + downs line ≡ lifts + (ups line + downs r)

    abbrev same_c : Context → Context
    same_c c = c

    -- the last link from port p
    data Last (p : NamedPort A) : Vertex A → Type 0 where
      at_once : {y : NamedPort A} → Linked N p y → Last p (old y)
      at_f_slot : {j' s : ℕ} → a ≡ crossing j' → s < arity k → Linked N p (slot f (suc s)) → Last p (g_copy s 0)
      at_g_slot : {j' n : ℕ} → a ≡ crossing j' → n < arity l → Linked N p (slot g (suc n)) → Last p (f_copy n 0)

    thread : {p p' z : NamedPort A} {u : Vertex A} {v : List (Crossing A)} (r : Line M p' v z) → NextHere p u →
        ((p : NamedPort A) → Last p u → Found p r same_c 0 0) → Found p r same_c 0 0
    thread {p} r (direct h) found = found p (at_once h)
    thread {p} r (to_f e b h) found = found p (at_f_slot e b h)
    thread {p} r (to_g e b h) found = found p (at_g_slot e b h)
    thread r (by_f {s = s} e b h n) found =
        let F = thread r n found in
        let long = F.long in
        record {
          w = rise f s ∷ fall g s ∷ F.w;
          line = rises k i h faces.first b (falls l j f_to_g faces.second (subst (λ n. s < n) (alike e) b) F.line);
          long = omega (arith, long);
          leads = λ c d z. (c, sym ((meets e).alike s c b), F.leads c d z);
          even = let x = F.even in let y = equal e in omega (arith, x, y);
        }
    thread r (by_g {s = s} e b h n) found =
        let F = thread r n found in
        let long = F.long in
        record {
          w = rise g s ∷ fall f s ∷ F.w;
          line = rises l j h faces.second (subst (λ n. s < n) (alike e) b) (falls k i g_to_f faces.first b F.line);
          long = omega (arith, long);
          leads = λ c d z. (c, (meets e).alike s c b, F.leads c d z);
          even = let x = F.even in let y = equal e in omega (arith, x, y);
        }

    -- the walk that leaves by port p', whatever this stands for
    record All (p' : NamedPort A) {z : NamedPort A} {v : List (Crossing A)} (r : Line M p' v z) : Type 0 where
      outer : (u : Vertex A) (p : NamedPort A) → AtHere u p → RealHere u → p' ≡ name u → Found p r same_c 0 0
      by_g_copy : (s n : ℕ) {j' : ℕ} → a ≡ crossing j' → s < arity k → n < arity l →
          p' ≡ slot (born (arity l + s)) (suc n) → Found (slot g (suc n)) r (λ c. up k i s c) 1 (marks k)
      by_f_copy : (s n : ℕ) (j' : ℕ) → a ≡ crossing j' → s < arity k → n < arity l →
          p' ≡ slot (born n) (suc s) → Found (slot f (suc s)) r (λ c. up l j' n c) 1 (marks l)

    stop_at : (p q : NamedPort A) → p ≡ q → (r : Line N p [] q) × ((c d : Context) → c ≡ d → Leads r c d) × (downs r ≡ ups r)
    stop_at p q y = subst (λ q. (r : Line N p [] q) × ((c d : Context) → c ≡ d → Leads r c d) × (downs r ≡ ups r)) y
        (stop, (λ c d h. h), refl)

    stopped : {p' : NamedPort A} (r : Line M p' [] p') → ((c d : Context) → Leads r c d → c ≡ d) → ups r ≡ downs r → p' ≡ q' → All p' r
    stopped {p'} r is none e = record {
      outer = λ u p at real h.
          let z : u ≡ uq = name_one N f g k i l j a born is_net faces fresh u uq real real_q (sym h ∙ e ∙ is_q) in
          let y = stop_at p q (at_one at at_q z) in
          record { w = []; line = y.0; long = omega arith; leads = λ c d t. y.1 c d (is c d t); even = let x = y.2 in omega (arith, x, none) };
      by_g_copy = λ s n c b b' h.
          absurd (not_in_g at_q (name_one N f g k i l j a born is_net faces fresh uq (g_copy s (suc n)) real_q tt
          (sym is_q ∙ sym e ∙ h)));
      by_f_copy = λ s n j' c b b' h.
          absurd (not_in_f at_q (name_one N f g k i l j a born is_net faces fresh uq (f_copy n (suc s)) real_q b'
          (sym is_q ∙ sym e ∙ h)));
    }

    rising : (p : NamedPort A) (u : Vertex A) (p' z : NamedPort A) (x : A) (s : ℕ) (k' : Kind) (i' : ℕ) (v : List (Crossing A))
        (link : Linked M p' (slot x (suc s))) (hn : HasNode M x k' i') (b : s < arity k') (row : Line M (slot x 0) v z) →
        All (slot x 0) row → Last p u → LastsHere u → slot x (suc s) ≡ name u → Found p (rises k' i' link hn b row) same_c 0 0
    rising p u p' z x s k' i' v link hn b row ih (at_once {y = y} h) r e =
        let r' = old_lasts x (suc s) y e r in
        let hn' = node_left (node_of_new x k' i' hn) r'.2.0 r'.2.1 r'.2.2 in
        let F = ih.outer (old (slot x 0)) (slot x 0) at_old (r'.2.0, r'.2.1, r'.2.2) refl in
        let long = F.long in
        record {
          w = rise x s ∷ F.w;
          line = rises k' i' (subst (λ q. Linked N p q) (sym e) h) hn' b F.line;
          long = omega (arith, long);
          leads = λ c d t. F.leads (up k' i' s c) d t;
          even = let x = F.even in omega (arith, x);
        }
    rising p u p' z x s k' i' v link hn b row ih (at_f_slot {s = n} c b' h) r e =
        let d = slot_number x (born (arity l + n)) (suc s) 0 e in absurd (omega arith)
    rising p u p' z x s k' i' v link hn b row ih (at_g_slot {n = n} c b' h) r e =
        let d = slot_number x (born n) (suc s) 0 e in absurd (omega arith)

    up_as : (m m' : Kind) (n n' s : ℕ) (c d : Context) → m ≡ m' → n ≡ n' → up m n s c ≡ d → up m' n' s c ≡ d
    up_as m m' n n' s c d e e' h = subst (λ n. up m' n s c ≡ d) e' (subst (λ m. up m n s c ≡ d) e h)

    falling : (p : NamedPort A) (u : Vertex A) (p' z : NamedPort A) (x : A) (s : ℕ) (k' : Kind) (i' : ℕ) (v : List (Crossing A))
        (link : Linked M p' (slot x 0)) (hn : HasNode M x k' i') (b : s < arity k') (row : Line M (slot x (suc s)) v z) →
        All (slot x (suc s)) row → Last p u → LastsHere u → slot x 0 ≡ name u → Found p (falls k' i' link hn b row) same_c 0 0
    falling p u p' z x s k' i' v link hn b row ih (at_once {y = y} h) r e =
        let r' = old_lasts x 0 y e r in
        let hn' = node_left (node_of_new x k' i' hn) r'.2.0 r'.2.1 r'.2.2 in
        let F = ih.outer (old (slot x (suc s))) (slot x (suc s)) at_old (r'.2.0, r'.2.1, r'.2.2) refl in
        let long = F.long in
        record {
          w = fall x s ∷ F.w;
          line = falls k' i' (subst (λ q. Linked N p q) (sym e) h) hn' b F.line;
          long = omega (arith, long);
          leads = λ c d t. (t.0, t.1, F.leads t.0 d t.2);
          even = let x = F.even in omega (arith, x);
        }
    falling p u p' z x s k' i' v link hn b row ih (at_f_slot {j' = j'} {s = n} c b' h) r e =
        let d : x ≡ born (arity l + n) = slot_node x (born (arity l + n)) 0 0 e in
        let m = node_g (node_of_new x k' i' hn) n j' c d in
        let b2 : s < arity l = subst (λ m. s < arity m) m.0 b in
        let F = ih.by_g_copy n s c b' b2 (ap (λ x. slot x (suc s)) d) in
        let long = F.long in
        record {
          w = rise f n ∷ fall g s ∷ F.w;
          line = rises k i h faces.first b' (falls l j f_to_g faces.second b2 F.line);
          long = omega (arith, long);
          leads = λ y d t. (
            up k i n t.0,
            sym ((commutes j' c).commute n s t.0 b' b2) ∙ ap (up k i n) (up_as k' l i' j' s t.0 y m.0 m.1 t.1),
            F.leads t.0 d t.2,
          );
          even = let x = F.even in let y = ap marks m.0 in omega (arith, x, y);
        }
    falling p u p' z x s k' i' v link hn b row ih (at_g_slot {j' = j'} {n = n} c b' h) r e =
        let d : x ≡ born n = slot_node x (born n) 0 0 e in
        let m = node_f (node_of_new x k' i' hn) n b' d in
        let b2 : s < arity k = subst (λ m. s < arity m) m.0 b in
        let F = ih.by_f_copy s n j' c b2 b' (ap (λ x. slot x (suc s)) d) in
        let long = F.long in
        record {
          w = rise g n ∷ fall f s ∷ F.w;
          line = rises l j h faces.second b' (falls k i g_to_f faces.first b2 F.line);
          long = omega (arith, long);
          leads = λ y d t. (
            up l j' n t.0,
            (commutes j' c).commute s n t.0 b2 b' ∙ ap (up l j n) (up_as k' k i' i s t.0 y m.0 m.1 t.1),
            F.leads t.0 d t.2,
          );
          even = let x = F.even in let y = ap marks m.0 in omega (arith, x, y);
        }

    lead_as : {p' z : NamedPort A} {v : List (Crossing A)} (r : Line M p' v z) (m m' : Kind) (n n' s s' : ℕ) (c d : Context) →
        m ≡ m' → n ≡ n' → s ≡ s' → Leads r (up m n s c) d → Leads r (up m' n' s' c) d
    lead_as r m m' n n' s s' c d e e' e2 h =
        subst (λ s. Leads r (up m' n' s c) d) e2 (subst (λ n. Leads r (up m' n s c) d) e' (subst (λ m. Leads r (up m n s c) d) e h))

    sources : {p' z : NamedPort A} {v : List (Crossing A)} (r : Line M p' v z) → z ≡ q' → All p' r
    sources (stop {p = p'}) e = stopped (stop {p = p'}) (λ c d h. h) refl e
    sources (rises {p = p'} {q = z} {x = x} {s = m} {w = v} k' i' h hn d row) e =
        let ih = sources row e in record {
          outer = λ u p at real n.
              let t = arrives N f g k i l j a born same t is_net faces fresh M rewrites alike quiet u p p' (slot x (suc m)) at real n h in
              thread (rises k' i' h hn d row) t.next (λ p r. rising p t.to p' z x m k' i' v h hn d row ih r t.lasts t.is);
          by_g_copy = λ s n c b b' y.
              let o = beside_g s n c b b' p' (slot x (suc m)) y h in
              let x' : x ≡ born n = slot_node x (born n) (suc m) (suc s) o in
              let m' = slot_number x (born n) (suc m) (suc s) o in
              let m2 : m ≡ s = omega arith in
              let kinds = node_f (node_of_new x k' i' hn) n b' x' in
              let F = ih.outer (f_copy n 0) (slot g (suc n)) at_g b' (ap (λ x. slot x 0) x') in
              let long = F.long in
              record {
                w = F.w;
                line = F.line;
                long = omega (arith, long);
                leads = λ c d t. F.leads (up k i s c) d (lead_as row k' k i' i m s c d kinds.0 kinds.1 m2 t);
                even = let x = F.even in let y = ap marks kinds.0 in omega (arith, x, y);
              };
          by_f_copy = λ s n j' c b b' y.
              let o = beside_f s n c b b' p' (slot x (suc m)) y h in
              let x' : x ≡ born (arity l + s) = slot_node x (born (arity l + s)) (suc m) (suc n) o in
              let m' = slot_number x (born (arity l + s)) (suc m) (suc n) o in
              let m2 : m ≡ n = omega arith in
              let kinds = node_g (node_of_new x k' i' hn) s j' c x' in
              let F = ih.outer (g_copy s 0) (slot f (suc s)) at_f tt (ap (λ x. slot x 0) x') in
              let long = F.long in
              record {
                w = F.w;
                line = F.line;
                long = omega (arith, long);
                leads = λ c d t. F.leads (up l j' n c) d (lead_as row k' l i' j' m n c d kinds.0 kinds.1 m2 t);
                even = let x = F.even in let y = ap marks kinds.0 in omega (arith, x, y);
              };
        }
    sources (falls {p = p'} {q = z} {x = x} {s = m} {w = v} k' i' h hn d row) e =
        let ih = sources row e in record {
          outer = λ u p at real n.
              let t = arrives N f g k i l j a born same t is_net faces fresh M rewrites alike quiet u p p' (slot x 0) at real n h in
              thread (falls k' i' h hn d row) t.next (λ p r. falling p t.to p' z x m k' i' v h hn d row ih r t.lasts t.is);
          by_g_copy = λ s n c b b' y.
              let o = slot_number x (born n) 0 (suc s) (beside_g s n c b b' p' (slot x 0) y h) in absurd (omega arith);
          by_f_copy = λ s n j' c b b' y.
              let o = slot_number x (born (arity l + s)) 0 (suc n) (beside_f s n c b b' p' (slot x 0) y h) in absurd (omega arith);
        }

  -- a loop that begins where no copy was left by another slot than 0
  outer_loop : (L : Loop M) (u : Vertex A) (p : NamedPort A) → AtHere u p → RealHere u → L.port ≡ name u → Loop N
  outer_loop L u p at real e =
      let F = (sources L.port p u at real e L.line refl).outer u p at real e in
      let long = F.long in
      let some = L.some in
      record {
        port = p;
        row = F.w;
        line = F.line;
        some = omega (arith, long, some);
        at = L.at;
        change = L.change;
        leads = λ c. F.leads (L.at c) (L.at (L.change c)) (L.leads c);
        balance = let x = F.even in let y = L.balance in omega (arith, x, y);
      }

  from_slot_0 : (L : Loop M) (x : A) (m : Kind) (n : ℕ) → NodeOf N born f g k i l a x m n → L.port ≡ slot x 0 → Loop N
  from_slot_0 L x m n (left h y z) e = outer_loop L (old (slot x 0)) (slot x 0) at_old (m, n, h) e
  from_slot_0 L x m n (of_f {q = q} j' c b) e = outer_loop L (f_copy q 0) (slot g (suc q)) at_g b e
  from_slot_0 L x m n (of_g {p = p} j' c b) e = outer_loop L (g_copy p 0) (slot f (suc p)) at_f tt e

  of_rotated : Rotated M → Loop N
  of_rotated R =
      from_slot_0 (record {
        port = slot R.node 0;
        row = R.row;
        line = R.line;
        some = R.some;
        at = R.at;
        change = R.change;
        leads = R.leads;
        balance = R.balance;
      }) R.node R.kind_is R.index (node_of_new R.node R.kind_is R.index R.there) refl

  -- what left a copy by another slot goes up next
  inner_loop : {p z : NamedPort A} {w : List (Crossing A)} (r : Line M p w z) → z ≡ p → 1 ≤ climbs w →
      (at change : Context → Context) → ((c : Context) → Leads r (at c) (at (change c))) →
      downs r ≤ ups r → ((x : A) → Linked M p (slot x 0) → ⊥) → Loop N
  inner_loop stop e some at change leads balance none = absurd (omega (arith, some))
  inner_loop (falls {x = x} k' i' h hn b r) e some at change leads balance none = absurd (none x h)
  inner_loop (rises {p = p} {q = z} {x = x} {s = s} {w = w} k' i' h hn b r) e some at change leads balance none =
      let R = closed z p e r leads balance in
      of_rotated (rotated M p x s k' i' w h hn b R.0 at change R.1 R.2)
    where
      closed : (z p : NamedPort A) → z ≡ p → (r : Line M (slot x 0) w z) → ((c : Context) → Leads r (up k' i' s (at c)) (at (change c))) →
          downs r ≤ marks k' + ups r →
          (r : Line M (slot x 0) w p) × ((c : Context) → Leads r (up k' i' s (at c)) (at (change c))) × (downs r ≤ marks k' + ups r)
      closed z p e r l m =
          subst (λ p. (r : Line M (slot x 0) w p) × ((c : Context) → Leads r (up k' i' s (at c)) (at (change c)))
          × (downs r ≤ marks k' + ups r)) e (r, l, m)

  beside_g_only : (s n : ℕ) (j' : ℕ) → a ≡ crossing j' → s < arity k → n < arity l → (p : NamedPort A) →
      p ≡ slot (born (arity l + s)) (suc n) → (x : A) → Linked M p (slot x 0) → ⊥
  beside_g_only s n j' c b b' p e x h =
      let o = slot_number x (born n) 0 (suc s) (beside_g s n c b b' p (slot x 0) e h) in omega (arith, o)

  beside_f_only : (s n : ℕ) (j' : ℕ) → a ≡ crossing j' → s < arity k → n < arity l → (p : NamedPort A) →
      p ≡ slot (born n) (suc s) → (x : A) → Linked M p (slot x 0) → ⊥
  beside_f_only s n j' c b b' p e x h =
      let o = slot_number x (born (arity l + s)) 0 (suc n) (beside_f s n c b b' p (slot x 0) e h) in omega (arith, o)

  of_node : (L : Loop M) (x : A) (s : ℕ) (m : Kind) (n : ℕ) → NodeOf N born f g k i l a x m n → s ≤ arity m →
      L.port ≡ slot x s → Loop N
  of_node L x s m n (left h y z) b e = outer_loop L (old (slot x s)) (slot x s) at_old (m, n, h) e
  of_node L x zero m n (of_f {q = q} j' c b') b e = outer_loop L (f_copy q 0) (slot g (suc q)) at_g b' e
  of_node L x zero m n (of_g {p = p} j' c b') b e = outer_loop L (g_copy p 0) (slot f (suc p)) at_f tt e
  of_node L x (suc s) m n (of_f {q = q} j' c b') b e =
      inner_loop L.line refl L.some L.at L.change L.leads L.balance (beside_f_only s q j' c (omega (arith, b)) b' L.port e)
  of_node L x (suc s) m n (of_g {p = p} j' c b') b e =
      inner_loop L.line refl L.some L.at L.change L.leads L.balance (beside_g_only p s j' c b' (omega (arith, b)) L.port e)

  pub loop_before : Loop M → Loop N
  loop_before L =
      let E = end_of M L.line L.some in
      of_node L E.node E.by E.kind_is E.index (node_of_new E.node E.kind_is E.index E.there) E.within E.is
