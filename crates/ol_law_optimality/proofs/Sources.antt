-- Each row of the net after a step is what the step makes of a row of the net before it.
use Rattle.std.proofs.Common.{◌≡◌, ◌≢◌, ℕ, suc, ◌+◌, ◌<◌, Bool, true, false, List, [], ◌∷◌, refl}
use Rattle.std.proofs.Common.{sym, ap, ◌∙◌, subst, arith}
use Rattle.ol_law_edges.specs.Edges.{IsTest, Joined}
use Rattle.ol_net.specs.Nets.{NamedPort, slot, NamedNet, HasNode, Linked, IsNet, Faces}
use Rattle.ol_net.specs.Parts.{arity}
use Rattle.ol_net.specs.declared.parts.Kind.{Kind}
use Rattle.ol_net.specs.declared.parts.Kind.TheVariants as kind
use Rattle.ol_rules.proofs.FreshPairs.{linked_sym}
use Rattle.ol_rules.proofs.Ports.{Lasts, Real, named, LinkAfter, links_of, name_one, lasts_real}
use Rattle.ol_rules.proofs.Wires.{Wire}
use Rattle.ol_rules.specs.Contracting.{Vertex, old, f_copy, g_copy}
use Rattle.ol_rules.specs.Laws.{IsFresh}
use Rattle.ol_rules.specs.Rewriting.{Action, meeting, crossing, NodeOf, left, of_f, of_g, Rewrites}
use Rattle.ol_law_optimality.specs.Routes.{Crossing, rise, fall, node_of, Row, along, rises, falls, Route}
use Rattle.ol_law_optimality.specs.Routes.{HasRoute, Residue, IsResidue, from_other, from_copy}
use Rattle.ol_law_optimality.specs.Routes as routes
use Rattle.ol_law_optimality.proofs.Trails.{Mated, Trail, link_first, join_first, At, at_old, at_f, at_g}
use Rattle.ol_law_optimality.proofs.Trails.{Next, direct, to_f, to_g, by_f, by_g, trail, next, only}
use Rattle.ol_law_optimality.proofs.Trails as trails

module _ {A : Type 0} (N : NamedNet A) (f g : A) (k : Kind) (i : ℕ) (l : Kind) (j : ℕ)
    (a : Action) (born : ℕ → A) (same : A → A → Bool) (t : IsTest same) (is_net : IsNet N)
    (faces : Faces N f g k i l j) (fresh : IsFresh N born) (M : NamedNet A)
    (rewrites : Rewrites born N f g k i l a M) (alike : a ≡ meeting → arity k ≡ arity l)
    (quiet : (j' : ℕ) → a ≡ crossing j' → (k ≢ kind.Lam) × (k ≢ kind.App)) where
  abbrev name : Vertex A → NamedPort A
  name u = named N f g k i l j a born u

  abbrev LastsHere : Vertex A → Type 0
  LastsHere u = Lasts N f g k i l j a born u

  abbrev RealHere : Vertex A → Type 0
  RealHere u = Real N f g k i l j a born u

  abbrev AtHere : Vertex A → NamedPort A → Type 0
  AtHere u p = At N f g k i l j a same t is_net faces u p

  abbrev NextHere : NamedPort A → Vertex A → Type 0
  NextHere p u = Next N f g k i l j a same t is_net faces p u

  abbrev TrailHere : Vertex A → Bool → Vertex A → Type 0
  TrailHere u b v = Trail N f g k i l j a u b v

  link_after : (p q : NamedPort A) → Linked M p q → LinkAfter N f g k i l j a born p q
  link_after p q h =
      (links_of N f g k i l j a born is_net faces fresh p q).1 ((rewrites.links p q).0 h)

  no_mate : {u w : Vertex A} → Mated N f g k i l j a u w → LastsHere u → (p : NamedPort A) →
      u ≡ old p → ⊥
  no_mate (trails.f_meets e h) r p q = r.0 refl
  no_mate (trails.g_meets e h) r p q = r.1 refl
  no_mate (trails.f_copied e h) r p q = r.0 refl
  no_mate (trails.g_copied e h) r p q = r.1 refl
  no_mate (trails.copy_of_f e h) r p q = absurd (cc)
  no_mate (trails.copy_of_g e h) r p q = absurd (cc)
  no_mate (trails.f_beside e h h') r p q = absurd (cc)
  no_mate (trails.g_beside e h h') r p q = absurd (cc)

  first : (u : Vertex A) (p : NamedPort A) → AtHere u p → LastsHere u →
      (b : Bool) × TrailHere u b u
  first u p at_old r = (true, link_first refl (λ w m. no_mate m r p refl))
  first u p at_f r = (false, join_first refl (λ p e. absurd (cc)))
  first u p at_g r = (false, join_first refl (λ p e. absurd (cc)))

  pub record Arrives (p : NamedPort A) (q' : NamedPort A) : Type 0 where
    pub to : Vertex A
    pub is : q' ≡ name to
    pub lasts : LastsHere to
    pub next : NextHere p to

  pub arrives : (u : Vertex A) (p p' q' : NamedPort A) → AtHere u p → RealHere u → p' ≡ name u →
      Linked M p' q' → Arrives p q'
  arrives u p p' q' at real e link =
      let h = link_after p' q' link in
      let z : h.from ≡ u = name_one N f g k i l j a born is_net faces fresh h.from u
      (lasts_real N f g k i l j a born is_net faces fresh h.from h.from_lasts) real
      (sym h.from_is ∙ e) in
      let r = subst (λ u. LastsHere u) z h.from_lasts in
      let way = trail N f g k i l j a same t is_net faces u (first u p at r).1
      (subst (λ u. Joined (Wire N f g k i l j a) u h.to) z h.joined) in
      record {
        to = h.to;
        is = h.to_is;
        lasts = h.to_lasts;
        next = next N f g k i l j a same t is_net faces u h.to p at born h.to_lasts
            (λ x. h.apart (z ∙ x)) refl way.1;
      }

  -- beside a copy
  pub beside : (u v : Vertex A) → RealHere u → Mated N f g k i l j a u v →
      ((p : NamedPort A) → u ≡ old p → ⊥) → ((p : NamedPort A) → v ≡ old p → ⊥) →
      (p' q' : NamedPort A) → p' ≡ name u → Linked M p' q' → q' ≡ name v
  beside u v real m n n' p' q' e link =
      let h = link_after p' q' link in
      let z : h.from ≡ u = name_one N f g k i l j a born is_net faces fresh h.from u
      (lasts_real N f g k i l j a born is_net faces fresh h.from h.from_lasts) real
      (sym h.from_is ∙ e) in
      let way = trail N f g k i l j a same t is_net faces u (join_first refl n)
      (subst (λ u. Joined (Wire N f g k i l j a) u h.to) z h.joined) in
      h.to_is ∙ ap name (go h.to (λ x. h.apart (z ∙ sym x)) way.0 way.1)
    where
      go : (w : Vertex A) → w ≢ u → (b : Bool) → TrailHere u b w → w ≡ v
      go w d true r = only N f g k i l j a same t is_net faces u v m n n' r
      go w d false r = absurd (d (only N f g k i l j a same t is_net faces u v m n n' r))

  -- nodes of the net after the step
  node_left : {x : A} {m : Kind} {n : ℕ} → NodeOf N born f g k i l a x m n → (m' : Kind) (n' : ℕ) →
      HasNode N x m' n' → HasNode N x m n
  node_left (left h y z) m' n' h' = h
  node_left {x} (of_f {q = q} j' e b) m' n' h' = absurd (fresh.unused x m' n' q h' refl)
  node_left {x} (of_g {p = p} j' e b) m' n' h' =
      absurd (fresh.unused x m' n' (arity l + p) h' refl)

  node_f : {x : A} {m : Kind} {n : ℕ} → NodeOf N born f g k i l a x m n → (q : ℕ) → q < arity l →
      x ≡ born q → m ≡ k
  node_f {x} {m} {n} (left h y z) q b e = absurd (fresh.unused x m n q h e)
  node_f (of_f j' c b') q b e = refl
  node_f (of_g {p = p} j' c b') q b e =
      let z = fresh.apart (arity l + p) q e in absurd (omega arith)

  node_g : {x : A} {m : Kind} {n : ℕ} → NodeOf N born f g k i l a x m n → (p : ℕ) →
      x ≡ born (arity l + p) → m ≡ l
  node_g {x} {m} {n} (left h y z) p e = absurd (fresh.unused x m n (arity l + p) h e)
  node_g (of_f {q = q} j' c b) p e =
      let z = fresh.apart q (arity l + p) e in absurd (omega arith)
  node_g (of_g j' c b') p e = refl

  node_of_new : (x : A) (m : Kind) (n : ℕ) → HasNode M x m n → NodeOf N born f g k i l a x m n
  node_of_new x m n h = (rewrites.nodes x m n).0 h

  f_to_g : Linked N (slot f 0) (slot g 0)
  f_to_g = faces.linked

  g_to_f : Linked N (slot g 0) (slot f 0)
  g_to_f = linked_sym N (slot f 0) (slot g 0) faces.linked

  -- rows that end at this abstraction of the net after the step
  module _ (z : A) (jz : ℕ) (lam : HasNode M z kind.Lam jz) where
    record Found (p : NamedPort A) (v : List (Crossing A)) : Type 0 where
      w : List (Crossing A)
      y : A
      index : ℕ
      abstraction : HasNode N y kind.Lam index
      row : Row N p w (slot y 0)
      residue : Residue born f g (arity l) a w y v z

    -- the last link from port p
    data Last (p : NamedPort A) : Vertex A → Type 0 where
      at_once : {q : NamedPort A} → Linked N p q → Last p (old q)
      at_f_slot : {j' s : ℕ} → a ≡ crossing j' → s < arity k → Linked N p (slot f (suc s)) →
          Last p (g_copy s 0)
      at_g_slot : {j' q : ℕ} → a ≡ crossing j' → q < arity l → Linked N p (slot g (suc q)) →
          Last p (f_copy q 0)

    thread : {p : NamedPort A} {u : Vertex A} {v : List (Crossing A)} → NextHere p u →
        ((p : NamedPort A) → Last p u → Found p v) → Found p v
    thread {p} (direct h) found = found p (at_once h)
    thread {p} (to_f e b h) found = found p (at_f_slot e b h)
    thread {p} (to_g e b h) found = found p (at_g_slot e b h)
    thread (by_f {s = s} e b h r) found =
        let F = thread r found in
        record {
          w = rise f s ∷ fall g s ∷ F.w;
          y = F.y;
          index = F.index;
          abstraction = F.abstraction;
          row = rises k i h faces.first b (falls l j f_to_g faces.second
              (subst (λ n. s < n) (alike e) b) F.row);
          residue = routes.meets_up e F.residue;
        }
    thread (by_g {s = s} e b h r) found =
        let F = thread r found in
        record {
          w = rise g s ∷ fall f s ∷ F.w;
          y = F.y;
          index = F.index;
          abstraction = F.abstraction;
          row = rises l j h faces.second (subst (λ n. s < n) (alike e) b)
              (falls k i g_to_f faces.first b F.row);
          residue = routes.meets_down e F.residue;
        }

    record BesideG (s n : ℕ) (v : List (Crossing A)) : Type 0 where
      rest : List (Crossing A)
      is : v ≡ rise (born n) s ∷ rest
      found : Found (slot g (suc n)) rest

    record BesideF (s n : ℕ) (v : List (Crossing A)) : Type 0 where
      rest : List (Crossing A)
      is : v ≡ rise (born (arity l + s)) n ∷ rest
      found : Found (slot f (suc s)) rest

    -- the row that leaves by port p', whatever this stands for
    record All (p' : NamedPort A) (v : List (Crossing A)) : Type 0 where
      outer : (u : Vertex A) (p : NamedPort A) → AtHere u p → RealHere u → p' ≡ name u → Found p v
      by_g_copy : (s n : ℕ) {j' : ℕ} → a ≡ crossing j' → s < arity k → n < arity l →
          p' ≡ slot (born (arity l + s)) (suc n) → BesideG s n v
      by_f_copy : (s n : ℕ) {j' : ℕ} → a ≡ crossing j' → s < arity k → n < arity l →
          p' ≡ slot (born n) (suc s) → BesideF s n v

    beside_g : (s n : ℕ) {j' : ℕ} → a ≡ crossing j' → s < arity k → n < arity l →
        (p' q' : NamedPort A) → p' ≡ slot (born (arity l + s)) (suc n) → Linked M p' q' →
        q' ≡ slot (born n) (suc s)
    beside_g s n e b b' p' q' h link =
        beside (g_copy s (suc n)) (f_copy n (suc s)) tt (trails.g_beside e b b') (λ p x.
        absurd (cc))
        (λ p x. absurd (cc)) p' q' h link

    beside_f : (s n : ℕ) {j' : ℕ} → a ≡ crossing j' → s < arity k → n < arity l →
        (p' q' : NamedPort A) → p' ≡ slot (born n) (suc s) → Linked M p' q' →
        q' ≡ slot (born (arity l + s)) (suc n)
    beside_f s n e b b' p' q' h link =
        beside (f_copy n (suc s)) (g_copy s (suc n)) b' (trails.f_beside e b b') (λ p x.
        absurd (cc))
        (λ p x. absurd (cc)) p' q' h link

    slot_node : (x y : A) (s n : ℕ) → ◌≡◌ {A = NamedPort A} (slot x s) (slot y n) → x ≡ y
    slot_node x y s n e = cc

    slot_number : (x y : A) (s n : ℕ) → ◌≡◌ {A = NamedPort A} (slot x s) (slot y n) → s ≡ n
    slot_number x y s n e = cc

    old_lasts : (x : A) (s : ℕ) (q : NamedPort A) → slot x s ≡ q → LastsHere (old q) →
        LastsHere (old (slot x s))
    old_lasts x s q e h = subst (λ q. LastsHere (old q)) (sym e) h

    ended : (p : NamedPort A) (u : Vertex A) → Last p u → LastsHere u → slot z 0 ≡ name u →
        Found p []
    ended p u (at_once {q = q} h) r e =
        let r' = old_lasts z 0 q e r in record {
          w = [];
          y = z;
          index = jz;
          abstraction = node_left (node_of_new z kind.Lam jz lam) r'.2.0 r'.2.1 r'.2.2;
          row = along (subst (λ q. Linked N p q) (sym e) h);
          residue = routes.Residue.ends r'.0 r'.1;
        }
    ended p u (at_f_slot {s = s} c b h) r e =
        let e' : z ≡ born (arity l + s) = slot_node z (born (arity l + s)) 0 0 e in
        let x : kind.Lam ≡ l = node_g (node_of_new z kind.Lam jz lam) s e' in
        record {
          w = rise f s ∷ [];
          y = g;
          index = j;
          abstraction = subst (λ l. HasNode N g l j) (sym x) faces.second;
          row = rises k i h faces.first b (along f_to_g);
          residue = subst (λ z. Residue born f g (arity l) a (rise f s ∷ []) g [] z) (sym e')
              (routes.ends_at_copy c);
        }
    ended p u (at_g_slot {j' = j'} {q = q} c b h) r e =
        let e' : z ≡ born q = slot_node z (born q) 0 0 e in
        let x : kind.Lam ≡ k = node_f (node_of_new z kind.Lam jz lam) q b e' in
        absurd ((quiet j' c).0 (sym x))

    rising : (p : NamedPort A) (u : Vertex A) (x : A) (s : ℕ) (k' : Kind) (i' : ℕ)
        (v : List (Crossing A)) → HasNode M x k' i' → s < arity k' → All (slot x 0) v → Last p u →
        LastsHere u → slot x (suc s) ≡ name u → Found p (rise x s ∷ v)
    rising p u x s k' i' v hn b ih (at_once {q = q} h) r e =
        let r' = old_lasts x (suc s) q e r in
        let hn' = node_left (node_of_new x k' i' hn) r'.2.0 r'.2.1 r'.2.2 in
        let F = ih.outer (old (slot x 0)) (slot x 0) at_old (r'.2.0, r'.2.1, r'.2.2) refl in
        record {
          w = rise x s ∷ F.w;
          y = F.y;
          index = F.index;
          abstraction = F.abstraction;
          row = rises k' i' (subst (λ q. Linked N p q) (sym e) h) hn' b F.row;
          residue = routes.passes r'.0 r'.1 F.residue;
        }
    rising p u x s k' i' v hn b ih (at_f_slot {s = n} c b' h) r e =
        let d = slot_number x (born (arity l + n)) (suc s) 0 e in absurd (omega arith)
    rising p u x s k' i' v hn b ih (at_g_slot {q = n} c b' h) r e =
        let d = slot_number x (born n) (suc s) 0 e in absurd (omega arith)

    falling : (p : NamedPort A) (u : Vertex A) (x : A) (s : ℕ) (k' : Kind) (i' : ℕ)
        (v : List (Crossing A)) → HasNode M x k' i' → s < arity k' → All (slot x (suc s)) v →
        Last p u → LastsHere u → slot x 0 ≡ name u → Found p (fall x s ∷ v)
    falling p u x s k' i' v hn b ih (at_once {q = q} h) r e =
        let r' = old_lasts x 0 q e r in
        let hn' = node_left (node_of_new x k' i' hn) r'.2.0 r'.2.1 r'.2.2 in
        let F = ih.outer (old (slot x (suc s))) (slot x (suc s)) at_old (r'.2.0, r'.2.1, r'.2.2)
        refl in
        record {
          w = fall x s ∷ F.w;
          y = F.y;
          index = F.index;
          abstraction = F.abstraction;
          row = falls k' i' (subst (λ q. Linked N p q) (sym e) h) hn' b F.row;
          residue = routes.passes r'.0 r'.1 F.residue;
        }
    falling p u x s k' i' v hn b ih (at_f_slot {s = n} c b' h) r e =
        let d : x ≡ born (arity l + n) = slot_node x (born (arity l + n)) 0 0 e in
        let m : k' ≡ l = node_g (node_of_new x k' i' hn) n d in
        let b2 : s < arity l = subst (λ m. s < arity m) m b in
        let B = ih.by_g_copy n s c b' b2 (ap (λ x. slot x (suc s)) d) in
        let F = B.found in
        subst (λ v. Found p (fall x s ∷ v)) (sym B.is)
        (subst (λ x. Found p (fall x s ∷ rise (born s) n ∷ B.rest)) (sym d) (record {
          w = rise f n ∷ fall g s ∷ F.w;
          y = F.y;
          index = F.index;
          abstraction = F.abstraction;
          row = rises k i h faces.first b' (falls l j f_to_g faces.second b2 F.row);
          residue = routes.crosses_up c F.residue;
        }))
    falling p u x s k' i' v hn b ih (at_g_slot {q = n} c b' h) r e =
        let d : x ≡ born n = slot_node x (born n) 0 0 e in
        let m : k' ≡ k = node_f (node_of_new x k' i' hn) n b' d in
        let b2 : s < arity k = subst (λ m. s < arity m) m b in
        let B = ih.by_f_copy s n c b2 b' (ap (λ x. slot x (suc s)) d) in
        let F = B.found in
        subst (λ v. Found p (fall x s ∷ v)) (sym B.is)
        (subst (λ x. Found p (fall x s ∷ rise (born (arity l + s)) n ∷ B.rest)) (sym d) (record {
          w = rise g n ∷ fall f s ∷ F.w;
          y = F.y;
          index = F.index;
          abstraction = F.abstraction;
          row = rises l j h faces.second b' (falls k i g_to_f faces.first b2 F.row);
          residue = routes.crosses_down c F.residue;
        }))

    sources : {p' q : NamedPort A} {v : List (Crossing A)} → Row M p' v q → q ≡ slot z 0 → All p' v
    sources (along {p = p'} {q = q} h) e = record {
      outer = λ u p at real n.
          let t = arrives u p p' q at real n h in
          thread t.next (λ p r. ended p t.to r t.lasts (sym e ∙ t.is));
      by_g_copy = λ s n c b b' x.
          let d = slot_number z (born n) 0 (suc s) (sym e ∙ beside_g s n c b b' p' q x h) in
          absurd (omega arith);
      by_f_copy = λ s n c b b' x.
          let d = slot_number z (born (arity l + s)) 0 (suc n) (sym e
          ∙ beside_f s n c b b' p' q x h)
          in absurd (omega arith);
    }
    sources (rises {p = p'} {x = x} {s = m} {w = v} k' i' h hn d row) e =
        let ih = sources row e in record {
          outer = λ u p at real n.
              let t = arrives u p p' (slot x (suc m)) at real n h in
              thread t.next (λ p r. rising p t.to x m k' i' v hn d ih r t.lasts t.is);
          by_g_copy = λ s n c b b' y.
              let o = beside_g s n c b b' p' (slot x (suc m)) y h in
              let x' : x ≡ born n = slot_node x (born n) (suc m) (suc s) o in
              let m' = slot_number x (born n) (suc m) (suc s) o in
              let m2 : m ≡ s = omega arith in
              record {
                rest = v;
                is = ap (λ x. rise x m ∷ v) x' ∙ ap (λ m. rise (born n) m ∷ v) m2;
                found = ih.outer (f_copy n 0) (slot g (suc n)) at_g b' (ap (λ x. slot x 0) x');
              };
          by_f_copy = λ s n c b b' y.
              let o = beside_f s n c b b' p' (slot x (suc m)) y h in
              let x' : x ≡ born (arity l + s) =
              slot_node x (born (arity l + s)) (suc m) (suc n) o in
              let m' = slot_number x (born (arity l + s)) (suc m) (suc n) o in
              let m2 : m ≡ n = omega arith in
              record {
                rest = v;
                is = ap (λ x. rise x m ∷ v) x' ∙ ap (λ m. rise (born (arity l + s)) m ∷ v) m2;
                found = ih.outer (g_copy s 0) (slot f (suc s)) at_f tt (ap (λ x. slot x 0) x');
              };
        }
    sources (falls {p = p'} {x = x} {s = m} {w = v} k' i' h hn d row) e =
        let ih = sources row e in record {
          outer = λ u p at real n.
              let t = arrives u p p' (slot x 0) at real n h in
              thread t.next (λ p r. falling p t.to x m k' i' v hn d ih r t.lasts t.is);
          by_g_copy = λ s n c b b' y.
              let o = slot_number x (born n) 0 (suc s) (beside_g s n c b b' p' (slot x 0) y h) in
              absurd (omega arith);
          by_f_copy = λ s n c b b' y.
              let o = slot_number x (born (arity l + s)) 0 (suc n)
              (beside_f s n c b b' p' (slot x 0) y h) in absurd (omega arith);
        }

    -- and the whole route
    abbrev Source : A → List (Crossing A) → Type 0
    Source x v = (s : Route A) × HasRoute N s
        × IsResidue born f g (arity l) a s (record { from = x; row = v; to = z })

    begun : {x : A} {m : Kind} {n : ℕ} → NodeOf N born f g k i l a x m n → m ≡ kind.App →
        (v : List (Crossing A)) → All (slot x 0) v → Source x v
    begun {x} {m} {n} (left h y y') e v all =
        let F = all.outer (old (slot x 0)) (slot x 0) at_old (m, n, h) refl in (
          record { from = x; row = F.w; to = F.y },
          record {
            i = n;
            j = F.index;
            application = subst (λ m. HasNode N x m n) e h;
            abstraction = F.abstraction;
            row = F.row;
          },
          from_other y y' F.residue,
        )
    begun (of_f j' c b) e v all = absurd ((quiet j' c).1 e)
    begun (of_g {p = s} j' c b) e v all =
        let F = all.outer (g_copy s 0) (slot f (suc s)) at_f tt refl in (
          record { from = g; row = fall f s ∷ F.w; to = F.y },
          record {
            i = j;
            j = F.index;
            application = subst (λ m. HasNode N g m j) e faces.second;
            abstraction = F.abstraction;
            row = falls k i g_to_f faces.first b F.row;
          },
          from_copy c F.residue,
        )

  pub source : (u : Route A) → HasRoute M u → (s : Route A) × HasRoute N s
      × IsResidue born f g (arity l) a s u
  source u h =
      begun u.to h.j h.abstraction (node_of_new u.from kind.App h.i h.application) refl u.row
      (sources u.to h.j h.abstraction h.row refl)
