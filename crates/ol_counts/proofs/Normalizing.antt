-- The machine follows the rules on to the normal form.
use Rattle.std.proofs.Common.{◌≡◌, ℕ, zero, suc, ◌+◌, ◌<◌, ◌≤◌, true, List, [], ◌∷◌, ◌++◌, length, Some, is_none, refl}
use Rattle.std.proofs.Common.{sym, ap, ◌∙◌, subst, arith}
use Rattle.ol_counts.specs.Machines.{Machine, Link, Weak, Frame, Control, goes, came, first_link}
use Rattle.ol_counts.specs.Machines.{entered, named, next, after, begun, has_name, is_ended, steps_if_ended, passed, need_count}
use Rattle.ol_counts.specs.Machines as machine
use Rattle.ol_counts.proofs.Moves.{ended_stays, ended_if}
use Rattle.ol_term.specs.Trees.{Tree, is_below}
use Rattle.ol_term.specs.Trees as trees
use Rattle.ol_counts.specs.NeedRules.{Head, level, WeakForm, function, name, HeapCell, has, Evaluates}
use Rattle.ol_counts.specs.NeedRules.{head_at, Task, closure, spine, NormalisesByNeed, into_body, into_arguments}
use Rattle.ol_counts.specs.NeedRules.{no_argument, one_argument, ReducesByNeed}
use Rattle.ol_law_optimality.proofs.Labelling.{each_term_has_letters}
use Rattle.ol_law_optimality.specs.Labels.{Labelled}
use Rattle.ol_counts.proofs.Ending.{begins}
use Rattle.ol_counts.proofs.Moving.{State}
use Rattle.ol_counts.proofs.Matching.{first_kept}
use Rattle.ol_counts.proofs.Following.{ChainOf, ValueOf, HeapOf, Grown, chain_on, heap_links, heap_push, Mach}
use Rattle.ol_counts.proofs.Following.{EndsAfter, Onward, onward, no_name, on_left, Ran, runs_cell, runs}
use Rattle.ol_law_edges.proofs.Lists.{got_last}

-- cells put before what is left, the last first
abbrev pub push : List ℕ → List ℕ → List ℕ
push [] left = left
push (c ∷ cs) left = push cs (c ∷ left)

abbrev pub Within : ℕ → List ℕ → Type 0
Within n [] = Unit {0}
Within n (c ∷ cs) = (c < n) × Within n cs

within_of : (n : ℕ) (links : List Link) (e : ℕ) (cs : List ℕ) → ChainOf n links e cs → Within n cs
within_of n links e [] c = tt
within_of n links e (x ∷ cs) c = (c.2, within_of n links c.0 cs c.3)

within_on : (n m : ℕ) (cs : List ℕ) → n ≤ m → Within n cs → Within m cs
within_on n m [] l w = tt
within_on n m (c ∷ cs) l w = let k = w.0 in (omega (arith, l, k), within_on n m cs l w.1)

module _ (T : Labelled) (s : ℕ) where
  -- the arguments are put before what is left
  record Popped (left : List ℕ) (cells : List machine.Cell) (links : List Link) (steps : ℕ) (j : ℕ) : Type 0 where
    rest : ℕ
    fewer : rest ≤ j
    ends : EndsAfter T s rest (Mach (came (machine.name 0)) [] left cells links steps)

  pops : (n : ℕ) (cs : List ℕ) (e : ℕ) (left : List ℕ) (cells : List machine.Cell) (links : List Link)
      (steps j : ℕ) → ChainOf n links e cs →
      EndsAfter T s j (Mach (came (machine.name e)) [] left cells links steps) →
      Popped (push cs left) cells links steps j
  pops n [] e left cells links steps j c f = record {
    rest = j;
    fewer = omega arith;
    ends = subst (λ e. EndsAfter T s j (Mach (came (machine.name e)) [] left cells links steps)) c f;
  }
  pops n (x ∷ cs) e left cells links steps j c f =
      let y =
      onward T s j (Mach (came (machine.name e)) [] left cells links steps) f
      (no_name (came (machine.name e)) [] left cells links steps (ap is_none c.1)) in
      let z =
      pops n cs c.0 (x ∷ left) cells links steps y.left c.3
      (subst
      (λ o. EndsAfter T s y.left (named (Mach (came (machine.name e)) [] left cells links steps) o))
      c.1 y.ends) in
      let k = y.fewer in
      let l = z.fewer in
      record { rest = z.rest; fewer = omega (arith, k, l); ends = z.ends }

  -- the machine comes to the normal form, and goes on with what is left
  pub record Normed (d : ℕ) (Γ : List HeapCell) (x : Task) (links : List Link) (left : List ℕ) (steps j n : ℕ) :
      Type 0 where
    pub heap : List HeapCell
    pub term : Tree
    pub count : ℕ
    pub rule : NormalisesByNeed d Γ x heap term count
    pub size : ℕ
    pub grows : n ≤ size
    pub cells : List machine.Cell
    pub more : List Link
    pub grown : Grown links more
    pub heap_is : HeapOf size more [] heap cells
    pub rest : ℕ
    pub fewer : rest < j
    pub ends : EndsAfter T s rest (Mach (came (machine.name 0)) [] left cells more (steps + count))

  ends_sum : (j : ℕ) (left : List ℕ) (cells : List machine.Cell) (links : List Link) (p m n : ℕ) →
      EndsAfter T s j (Mach (came (machine.name 0)) [] left cells links (p + m + n)) →
      EndsAfter T s j (Mach (came (machine.name 0)) [] left cells links (p + (m + n)))
  ends_sum j left cells links p m n e =
      subst (λ k. EndsAfter T s j (Mach (came (machine.name 0)) [] left cells links k))
      (let q : p + m + n ≡ p + (m + n) = omega arith in q) e

  -- from a weak head normal form on
  abbrev Finishes : ℕ → Type 0
  Finishes k = (d : ℕ) (Γ : List HeapCell) (t : Tree) (ρ : List ℕ) (links : List Link) (left : List ℕ)
      (steps j n : ℕ) (x : Ran T s Γ t ρ links [] left steps j n) → x.rest < k →
      Normed d Γ (closure t ρ) links left steps j n

  -- one argument more, after those before it
  one_more : (k : ℕ) → Finishes k → (d : ℕ) (h : Head) (c : ℕ) (cs left : List ℕ) (links : List Link)
      (steps j n : ℕ) (Γ : List HeapCell) → j < suc k → c < n →
      Normed d Γ (spine h cs) links (c ∷ left) steps (suc j) n →
      Normed d Γ (spine h (c ∷ cs)) links left steps (suc j) n
  one_more k fin d h c cs left links steps j n Γ q w x = record {
    heap = b.heap;
    term = trees.app x.term b.term;
    count = x.count + b.count;
    rule = one_argument x.rule b.rule;
    size = b.size;
    grows = let l = x.grows in let m = b.grows in omega (arith, l, m);
    cells = b.cells;
    more = b.more;
    grown = λ e o i. b.grown e o (x.grown e o i);
    heap_is = b.heap_is;
    rest = b.rest;
    fewer = let l = x.fewer in let m = b.fewer in omega (arith, l, m);
    ends =
        ends_sum b.rest left b.cells b.more steps x.count b.count b.ends;
  }
    where
      y : Onward T s x.rest (Mach (came (machine.name 0)) [] (c ∷ left) x.cells x.more (steps + x.count))
      y =
          onward T s x.rest (Mach (came (machine.name 0)) [] (c ∷ left) x.cells x.more (steps + x.count))
          x.ends (on_left (came (machine.name 0)) [] c left x.cells x.more (steps + x.count))

      a : Ran T s x.heap (trees.var 0) (c ∷ []) x.more [] left (steps + x.count) x.rest x.size
      a =
          runs_cell T s x.rest (runs T s x.rest) x.rest (omega arith) x.size 0 c (c ∷ [])
          (came (machine.name 0)) [] left x.cells x.more (steps + x.count) x.heap x.heap_is refl
          (let m = x.grows in omega (arith, w, m)) (λ i. i) y.left y.fewer y.ends

      b : Normed d x.heap (closure (trees.var 0) (c ∷ [])) x.more left (steps + x.count) x.rest x.size
      b =
          fin d x.heap (trees.var 0) (c ∷ []) x.more left (steps + x.count) x.rest x.size a
          (let l = a.fewer in let m = x.fewer in omega (arith, l, m, q))

  arguments : (k : ℕ) → Finishes k → (d : ℕ) (h : Head) (cs left : List ℕ) (cells : List machine.Cell)
      (links : List Link) (steps j n : ℕ) (Γ : List HeapCell) → j < suc k → HeapOf n links [] Γ cells → Within n cs →
      EndsAfter T s j (Mach (came (machine.name 0)) [] (push cs left) cells links steps) →
      Normed d Γ (spine h cs) links left steps (suc j) n
  arguments k fin d h [] left cells links steps j n Γ q hp w f = record {
    heap = Γ;
    term = head_at d h;
    count = 0;
    rule = no_argument;
    size = n;
    grows = omega arith;
    cells = cells;
    more = links;
    grown = λ e x q. q;
    heap_is = hp;
    rest = j;
    fewer = omega arith;
    ends =
        subst (λ k. EndsAfter T s j (Mach (came (machine.name 0)) [] left cells links k))
        (let q : steps ≡ steps + 0 = omega arith in q) f;
  }
  arguments k fin d h (c ∷ cs) left cells links steps j n Γ q hp w f =
      one_more k fin d h c cs left links steps j n Γ q w.0
      (arguments k fin d h cs (c ∷ left) cells links steps j n Γ q hp w.1 f)

  -- an abstraction, after its body
  under_one : (d : ℕ) (Γ : List HeapCell) (t : Tree) (ρ : List ℕ) (links : List Link) (left : List ℕ)
      (steps j n : ℕ) (x : Ran T s Γ t ρ links [] left steps j n) (u : Tree) (η : List ℕ) →
      Evaluates Γ t ρ x.heap (function u η) x.count → (m : List Link) → Grown x.more m → (i : ℕ) →
      i < x.rest →
      Normed (suc d) (x.heap ++ has (name (level d) []) ∷ []) (closure u (length x.heap ∷ η)) m left
      (steps + x.count) i (suc x.size) →
      Normed d Γ (closure t ρ) links left steps j n
  under_one d Γ t ρ links left steps j n x u η r m g i o a = record {
    heap = a.heap;
    term = trees.lam a.term;
    count = x.count + a.count;
    rule = into_body r a.rule;
    size = a.size;
    grows = let l = x.grows in let m = a.grows in omega (arith, l, m);
    cells = a.cells;
    more = a.more;
    grown = λ e l q. a.grown e l (g e l (x.grown e l q));
    heap_is = a.heap_is;
    rest = a.rest;
    fewer = let l = x.fewer in let m = a.fewer in omega (arith, l, m, o);
    ends = ends_sum a.rest left a.cells a.more steps x.count a.count a.ends;
  }

  finishes : (k : ℕ) → Finishes k
  finishes zero d Γ t ρ links left steps j n x q = absurd (omega (arith, q))
  finishes (suc k) d Γ t ρ links left steps j n x q =
      go x.value x.weak x.rule x.value_is x.ends (finishes k)
    where
      go : (v : WeakForm) (w : Weak) → Evaluates Γ t ρ x.heap v x.count → ValueOf x.size x.more v w →
          EndsAfter T s x.rest (Mach (came w) [] left x.cells x.more (steps + x.count)) → Finishes k →
          Normed d Γ (closure t ρ) links left steps j n
      go (function u η) (machine.function b e) r c f fin =
          let at = length x.cells in
          let l : Link = record { cell = at; behind = e } in
          let m = x.more ++ l ∷ [] in
          let cells = x.cells ++ machine.has (machine.name 0) ∷ [] in
          let hp = x.heap ++ has (name (level d) []) ∷ [] in
          let y =
          onward T s x.rest
          (Mach (came (machine.function b e)) [] left x.cells x.more (steps + x.count)) f
          (no_name (came (machine.function b e)) [] left x.cells x.more (steps + x.count) refl) in
          let g = first_kept x.more l in
          let same : length x.heap ≡ at = x.heap_is.size ∙ sym x.heap_is.own_size in
          let z =
          runs T s (suc y.left) y.left (omega arith) (suc x.size) u b (suc (length x.more))
          (length x.heap ∷ η) [] left cells m (steps + x.count) hp
          (heap_push x.size m [] x.heap x.cells (has (name (level d) [])) (machine.has (machine.name 0))
          (heap_links x.size x.more m [] x.heap x.cells g x.heap_is) refl) (
            c.0,
            (
              e,
              got_last x.more l
                  ∙ ap (λ a. Some (record { cell = a; behind = e })) (sym same),
              (let i = x.heap_is.size in omega (arith, i)),
              chain_on x.size (suc x.size) x.more m (omega arith) g e η c.1,
            ),
            ap (λ d. is_below d u) (let p : 0 + suc (length η) ≡ 1 + length η = omega arith in p) ∙ c.2,
          )
          y.ends in
          let i = y.fewer in
          let o = z.fewer in
          under_one d Γ t ρ links left steps j n x u η r m g y.left (omega (arith, i))
          (fin (suc d) hp u (length x.heap ∷ η) m left (steps + x.count) y.left (suc x.size) z
          (omega (arith, q, i, o)))
      go (function u η) (machine.name e) r c f fin = absurd c
      go (name h cs) (machine.function b e) r c f fin = absurd c
      go (name h cs) (machine.name e) r c f fin =
          let y = pops x.size cs e left x.cells x.more (steps + x.count) x.rest c f in
          let i = y.fewer in
          let a =
          arguments k fin d h cs left x.cells x.more (steps + x.count) y.rest x.size x.heap
          (omega (arith, q, i)) x.heap_is (within_of x.size x.more e cs c) y.ends in
          record {
            heap = a.heap;
            term = a.term;
            count = x.count + a.count;
            rule = into_arguments r a.rule;
            size = a.size;
            grows = let l = x.grows in let m = a.grows in omega (arith, l, m);
            cells = a.cells;
            more = a.more;
            grown = λ e o i. a.grown e o (x.grown e o i);
            heap_is = a.heap_is;
            rest = a.rest;
            fewer =
                let l = x.fewer in let m = a.fewer in omega (arith, l, m, i);
            ends =
                ends_sum a.rest left a.cells a.more steps x.count a.count a.ends;
          }

  no_heap : HeapOf 0 [] [] [] []
  no_heap = record {
    size = refl;
    own_size = refl;
    busy = λ c i. absurd i;
    at = λ c l b. absurd (omega (arith, l));
  }

  pub follows : (t : Tree) (j : ℕ) → is_below 0 t ≡ true → EndsAfter T s j (begun t) →
      Normed 0 [] (closure t []) [] [] 0 j 0
  follows t j b f =
      let x =
      runs T s (suc j) j (omega arith) 0 t t 0 [] [] [] [] [] 0 [] no_heap
      (refl, refl, ap (λ d. is_below d t) (let q : 0 + 0 ≡ 0 = omega arith in q) ∙ b) f in
      finishes (suc x.rest) 0 [] t [] [] [] 0 j 0 x (omega arith)

after_ended : (n : ℕ) (m : Machine) → is_ended m ≡ true → after n m ≡ m
after_ended zero m e = refl
after_ended (suc n) m e = ap next (after_ended n m e) ∙ ended_stays m e

-- so a count of the machine is one by the rules
pub by_rules : (t : Tree) → is_below 0 t ≡ true → (moves n : ℕ) → need_count t moves ≡ Some n →
    (v : Tree) × ReducesByNeed t v n
by_rules t b moves n e =
    let l = each_term_has_letters t in
    let begun_is = subst (λ t. State l.0 (begun t)) l.1 (begins l.0 (ap (is_below 0) l.1 ∙ b)) in
    let x = follows l.0 n t moves b (e, begun_is) in
    let m = Mach (came (machine.name 0)) [] [] x.cells x.more (0 + x.count) in
    let f = subst (λ m. steps_if_ended m ≡ Some n) (after_ended x.rest m refl) x.ends.0 in
    let k : 0 + x.count ≡ n = (ended_if m n f).1 in
    let i : x.count ≡ n = omega (arith, k) in
    (x.term, (x.heap, subst (λ n. NormalisesByNeed 0 [] (closure t []) x.heap x.term n) i x.rule))
