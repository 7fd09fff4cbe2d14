-- Without facing pairs a walk turns once, and then goes on.
use Rattle.std.proofs.Common.{◌≡◌, ℕ, zero, suc, ◌+◌, ◌-◌, ◌*◌, ◌<◌, ◌≤◌, ◌⊎◌, List, [], ◌∷◌, ◌++◌, map, length, inl}
use Rattle.std.proofs.Common.{inr, refl, sym, ap, ◌∙◌, subst, arith, append_assoc, append-nil}
use Rattle.std.proofs.lemmas.List.{map-append, length-map, length-append}
use Rattle.ol_law_edges.specs.Edges.{IsIn}
use Rattle.ol_net.specs.declared.parts.Kind.{Kind}
use Rattle.ol_net.specs.Nets.{NamedNet, NamedPort, free, slot, HasNode, Linked, IsNet, IsPort}
use Rattle.ol_context.specs.Contexts.{Level, Context}
use Rattle.ol_context.specs.Paths.{inward, outward, Path, crossings}
use Rattle.ol_context.specs.Ways.{Way, start, on, WalkStands}
use Rattle.ol_context.specs.Short.{HasNoFacing, live, IsOnce, entries, principal, auxiliary, TurnsOnce, LeavesExactly}
use Rattle.ol_context.specs.WalkAnswers.{IsExit, ExitsExactly}
use Rattle.ol_context.specs.declared.answers.Walk.{Walk}
use Rattle.ol_context.proofs.Short.{few, IsLive, Down, first, next, down_one, short}
use Rattle.ol_context.proofs.Ways.{way_exits, way_passes}
use Rattle.ol_law_edges.proofs.Lists.{in_map}

-- what is in a list with one more is in the list, or is that one
pub in_last : {X : Type 0} (z x : X) (xs : List X) → IsIn z (xs ++ x ∷ []) → IsIn z xs ⊎ (z ≡ x)
in_last z x [] (inl e) = inr e
in_last z x [] (inr h) = absurd h
in_last z x (y ∷ ys) (inl e) = inl (inl e)
in_last z x (y ∷ ys) (inr h) = go (in_last z x ys h)
  where
    go : IsIn z ys ⊎ (z ≡ x) → IsIn z (y ∷ ys) ⊎ (z ≡ x)
    go (inl h) = inl (inr h)
    go (inr e) = inr e

pub once_more : {X : Type 0} (x : X) (xs : List X) → IsOnce xs → (IsIn x xs → ⊥) → IsOnce (xs ++ x ∷ [])
once_more x [] o h = ((λ k. k), tt)
once_more x (y ∷ ys) o h = (fresh, once_more x ys o.1 (λ k. h (inr k)))
  where
    fresh : IsIn y (ys ++ x ∷ []) → ⊥
    fresh k = go (in_last y x ys k)
      where
        go : IsIn y ys ⊎ (y ≡ x) → ⊥
        go (inl k) = o.0 k
        go (inr e) = h (inl (sym e))

some_long : {X : Type 0} (x : X) (xs : List X) → IsIn x xs → 1 ≤ length xs
some_long x [] h = absurd h
some_long x (y ∷ ys) h = omega arith

module _ {A : Type 0} (N : NamedNet A) (is_net : IsNet N) (apart : HasNoFacing N) (p : ℕ) where
  record Earlier (n : ℕ) (z : A) : Type 0 where
    at : ℕ
    less : at < n
    down : Down N is_net apart p at z

  -- slots 0 alone were entered
  record Falling (n : ℕ) (u : NamedPort A) (ps : List (NamedPort A)) : Type 0 where
    down : List A
    are : ps ≡ map principal down
    long : length down ≡ n
    once : IsOnce down
    lives : (z : A) → IsIn z down → IsLive N is_net apart z
    earlier : (z : A) → IsIn z down → Earlier n z
    onward : (y : A) → Linked N u (slot y 0) → Down N is_net apart p n y

  -- the last one was left by slot 0
  record Rising (u : NamedPort A) (ps : List (NamedPort A)) : Type 0 where
    turned : TurnsOnce ps
    node : A
    at : u ≡ slot node 0
    lives : IsLive N is_net apart node

  data Stage (n : ℕ) (u : NamedPort A) (ps : List (NamedPort A)) : Type 0 where
    falls : Falling n u ps → Stage n u ps
    rises : Rising u ps → Stage n u ps

  is_live : (y : A) (k : Kind) (i : ℕ) → HasNode N y k i → IsLive N is_net apart y
  is_live y k i h = (k, i, h)

  fall : (n : ℕ) (u : NamedPort A) (ps : List (NamedPort A)) (x : A) (t : ℕ) →
      IsLive N is_net apart x → Linked N u (slot x 0) → Falling n u ps →
      Falling (suc n) (slot x (suc t)) (ps ++ slot x 0 ∷ [])
  fall n u ps x t h l f = record {
    down = f.down ++ x ∷ [];
    are = ap (λ r. r ++ slot x 0 ∷ []) f.are ∙ sym (map-append principal f.down (x ∷ []));
    long = (let a : length (f.down ++ x ∷ []) ≡ length f.down + 1 = length-append f.down (x ∷ []) in
        let b = f.long in omega arith);
    once = once_more x f.down f.once fresh;
    lives = lives;
    earlier = earlier;
    onward = λ y l'. next t (f.onward x l) l';
  }
    where
      fresh : IsIn x f.down → ⊥
      fresh k = let e = f.earlier x k in let b = e.less in
          let q = down_one N is_net apart p e.down (f.onward x l) refl in omega arith

      lives : (z : A) → IsIn z (f.down ++ x ∷ []) → IsLive N is_net apart z
      lives z k = go (in_last z x f.down k)
        where
          go : IsIn z f.down ⊎ (z ≡ x) → IsLive N is_net apart z
          go (inl k) = f.lives z k
          go (inr e) = subst (IsLive N is_net apart) (sym e) h

      earlier : (z : A) → IsIn z (f.down ++ x ∷ []) → Earlier (suc n) z
      earlier z k = go (in_last z x f.down k)
        where
          go : IsIn z f.down ⊎ (z ≡ x) → Earlier (suc n) z
          go (inl k) = let e = f.earlier z k in let b = e.less in
              record { at = e.at; less = omega arith; down = e.down }
          go (inr e) = subst (λ z. Earlier (suc n) z) (sym e)
              (record { at = n; less = omega arith; down = f.onward x l })

  turns : (n : ℕ) (u : NamedPort A) (ps : List (NamedPort A)) → Stage n u ps → TurnsOnce ps
  turns n u ps (falls f) = record {
    down = f.down;
    up = [];
    are = f.are
        ∙ sym (append-nil (map principal f.down));
    once = f.once;
  }
  turns n u ps (rises r) = r.turned

  turn_on : (ps : List (NamedPort A)) (x : A) (s : ℕ) → TurnsOnce ps → TurnsOnce (ps ++ slot x (suc s) ∷ [])
  turn_on ps x s t = record {
    down = t.down;
    up = t.up ++ (x, s) ∷ [];
    are = ap (λ r. r ++ slot x (suc s) ∷ []) t.are
        ∙ append_assoc (map principal t.down) (map auxiliary t.up) (slot x (suc s) ∷ [])
        ∙ ap (λ r. map principal t.down ++ r) (sym (map-append auxiliary t.up ((x, s) ∷ [])));
    once = t.once;
  }

  stage : {c : Context} {n : ℕ} {u : NamedPort A} {d : Context} (w : Way N (free p) c n u d) → Stage n u (entries w)
  stage start = falls (record {
    down = [];
    are = refl;
    long = refl;
    once = tt;
    lives = λ z k. absurd k;
    earlier = λ z k. absurd k;
    onward = λ y l. first l;
  })
  stage (on {n = n} {u = u} {x = x} {k = k} {i = i} w l h (inward {s = s} b e)) =
      rises (record {
        turned = turn_on (entries w) x s (turns n u (entries w) (stage w));
        node = x;
        at = refl;
        lives = is_live x k i h;
      })
  stage (on {n = n} {u = u} {x = x} {k = k} {i = i} w l h (outward {s = t} b e)) = go (stage w)
    where
      go : Stage n u (entries w) → Stage (suc n) (slot x (suc t)) (entries w ++ slot x 0 ∷ [])
      go (falls f) = falls (fall n u (entries w) x t (is_live x k i h) l f)
      go (rises r) = absurd (apart r.node x (subst (λ u. Linked N u (slot x 0)) r.at l))

  pub turns_once : {c : Context} {n : ℕ} {u : NamedPort A} {d : Context}
      (w : Way N (free p) c n u d) → TurnsOnce (entries w)
  turns_once {n = n} {u = u} w = turns n u (entries w) (stage w)

  few_down : (n : ℕ) (u : NamedPort A) (ps : List (NamedPort A)) → Falling n u ps → n ≤ live N
  few_down n u ps f =
      let inside : (z : A) → IsLive N is_net apart z →
      IsIn z (map (λ (n : A × Kind × ℕ). n.0) N.nodes) = λ z h.
      in_map (λ (n : A × Kind × ℕ). n.0) (z, h.0, h.1) N.nodes h.2 in
      let a = few f.down (map (λ (n : A × Kind × ℕ). n.0) N.nodes) f.once (λ z k. inside z (f.lives z k)) in
      let m = length-map N.nodes (λ (n : A × Kind × ℕ). n.0) in
      let l = f.long in
      omega arith

  -- n crossings, the last one out of a slot 0
  record Up (c : Context) (n : ℕ) : Type 0 where
    node : A
    context : Context
    way : Way N (free p) c n (slot node 0) context
    lives : IsLive N is_net apart node

  up_on : (c : Context) (n : ℕ) (r : Up c n) (x : A) (s : ℕ) → Linked N (slot r.node 0) (slot x s) → Up c (suc n)
  up_on c n r x zero l = absurd (apart r.node x l)
  up_on c n r x (suc s) l = go (is_net.of_ports (slot r.node 0) (slot x (suc s)) l).1
    where
      go : IsPort N (slot x (suc s)) → Up c (suc n)
      go h = record {
        node = x;
        context = _;
        way = on r.way l h.2 (inward {s = s} (let b = h.3 in omega arith) refl);
        lives = is_live x h.0 h.1 h.2;
      }

  -- the node that comes next, where no exit can come any more
  up_link : (c : Context) (n : ℕ) → 2 * live N < n → (r : Up c n) →
      (x : A) × (s : ℕ) × Linked N (slot r.node 0) (slot x s)
  up_link c n b r = go link.0 link.1
    where
      link : (v : NamedPort A) × Linked N (slot r.node 0) v
      link = is_net.some_link (slot r.node 0) (r.lives.0, r.lives.1, r.lives.2, omega arith)

      go : (v : NamedPort A) → Linked N (slot r.node 0) v → (x : A) × (s : ℕ) × Linked N (slot r.node 0) (slot x s)
      go (free q) l =
          let e = way_exits N n n q r.way l (omega arith) in
          let k = short N is_net apart p c q r.context e.path in
          let m = e.long in
          absurd (omega arith)
      go (slot x s) l = (x, s, l)

  up_later : (c : Context) (n : ℕ) → 2 * live N < n → Up c n → (m : ℕ) → Up c (m + n)
  up_later c n b r zero = subst (Up c) (omega arith) r
  up_later c n b r (suc m) =
      let z = up_later c n b r m in
      let l = up_link c (m + n) (omega arith) z in
      subst (Up c) (omega arith) (up_on c (m + n) z l.0 l.1 l.2)

  up_at : (c : Context) (edges : ℕ) → 2 * live N ≤ edges → (s : WalkStands N (free p) c edges) → Up c (suc edges)
  up_at c edges b s = go (stage s.way)
    where
      go : Stage edges s.port (entries s.way) → Up c (suc edges)
      go (falls f) =
          let few = few_down edges s.port (entries s.way) f in
          let h = (is_net.of_ports s.port (slot s.node s.at) s.linked).1 in
          let one = some_long (s.node, h.0, h.1) N.nodes h.2 in
          absurd (omega arith)
      go (rises r) = up_on c edges (record {
        node = r.node;
        context = s.context;
        way = subst (λ u. Way N (free p) c edges u s.context) r.at s.way;
        lives = r.lives;
      }) s.node s.at (subst (λ u. Linked N u (slot s.node s.at)) r.at s.linked)

  three : (m n : ℕ) → ((m < n) ⊎ (m ≡ n)) ⊎ (n < m)
  three m n = grind arith

  pub goes_on : (c : Context) (edges : ℕ) → 2 * live N ≤ edges → WalkStands N (free p) c edges →
      (n : ℕ) → WalkStands N (free p) c n
  goes_on c edges b s n = go (three n edges)
    where
      go : ((n < edges) ⊎ (n ≡ edges)) ⊎ (edges < n) → WalkStands N (free p) c n
      go (inl (inl h)) = (way_passes N n s.way h).stands
      go (inl (inr e)) = subst (WalkStands N (free p) c) (sym e) s
      go (inr h) =
          let e : (n - suc edges) + suc edges ≡ n = omega arith in
          let r = subst (Up c) e (up_later c (suc edges) (omega arith) (up_at c edges b s) (n - suc edges)) in
          let l = up_link c n (omega arith) r in
          record { port = slot r.node 0; context = r.context; way = r.way; node = l.0; at = l.1; linked = l.2 }

-- so an exit needs no word of the budget
pub leaves_exactly : (N : NamedNet ℕ) → IsNet N →
    (p : ℕ) (c : Context) (edges : ℕ) (vs : List Level) (w : Walk) → ExitsExactly N p c edges vs w →
    HasNoFacing N → 2 * live N ≤ edges → LeavesExactly N p c vs w
leaves_exactly N is_net p c edges vs w e apart b q d n = (there, back)
  where
    there : IsExit vs w q d n → (r : Path N (free p) c q d) × (crossings r ≡ n)
    there h = let x = (e q d n).0 h in (x.path, x.long)

    back : (r : Path N (free p) c q d) × (crossings r ≡ n) → IsExit vs w q d n
    back r = (e q d n).1 (record {
      path = r.0;
      long = r.1;
      within = (let k = short N is_net apart p c q d r.0 in let l : crossings r.0 ≡ n = r.1 in omega arith);
    })
