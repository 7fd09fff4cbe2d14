-- The chain for some number of abstractions goes along the path for a greater one, or along the
-- chain for a greater one that meets a pair, until the marks that it was given are used up.
use Rattle.std.proofs.Common.{◌≡◌, ℕ, zero, suc, ◌+◌, ◌-◌, ◌<◌, ◌≤◌, ◌⊎◌, List, ◌∷◌, length, inl, inr, refl, sym, ap}
use Rattle.std.proofs.Common.{◌∙◌, subst, arith}
use Rattle.ol_law_edges.specs.Edges.{IsIn}
use Rattle.ol_net.specs.declared.parts.Kind.{Kind}
use Rattle.ol_net.specs.declared.parts.Rule.{Rule}
use Rattle.ol_net.specs.Parts.{arity}
use Rattle.ol_net.specs.Nets.{NamedNet, NamedPort, free, slot, HasNode, Linked, IsNet, IsPrincipalOf}
use Rattle.ol_context.specs.Contexts.{Level, empty, Context, up}
use Rattle.ol_context.specs.Paths.{Crosses, inward, outward, Through, through}
use Rattle.ol_context.specs.Short.{live}
use Rattle.ol_context.specs.Ways.{Way, start, on}
use Rattle.ol_context.proofs.Contexts.{injective}
use Rattle.ol_context.proofs.Ways.{crosses_one}
use Rattle.ol_rules.proofs.FreshPairs.{linked_sym}
use Rattle.ol_readback.specs.Frames.{os, asked}
use Rattle.ol_readback.proofs.Holes.{fill, Before, moved, stripped, before}
use Rattle.ol_demand.specs.Chains.{IsAtPair, IsAtNoPair, Chain, starts, crosses, End, met, left, undefined, budget}
use Rattle.ol_demand.specs.Chains.{Stands, at_pair, at_port, barred, at_last, Ends}
use Rattle.ol_demand.proofs.Pairs.{no_free}
use Rattle.ol_law_completeness.specs.Rows.{Crossing, rise, fall, row, GoesDown}
use Rattle.ol_law_completeness.specs.Laws.{CrossesNoStuck, IsOnPath, ChainIsOnPath, ChainsMeetAlike}
use Rattle.ol_law_completeness.proofs.Goings.{Goes, stops, goes_up, goes_down, IsStop, AtFree, free_stops, path_goes}
use Rattle.ol_law_completeness.proofs.Turning.{Phase, falling, rising, begins, extend, stuck, fall_on}
use Rattle.ol_law_completeness.proofs.Turning.{few_falling, few_crossed}
use Rattle.ol_readback.proofs.Enough.{asked_filled}

-- The chain meets a pair of which the walk goes down through a node, or at which it stops.
abbrev GoesOrStops : {A : Type 0} → NamedNet A → (NamedPort A → Type 0) → List (Crossing A) → A →
    A → Rule → Type 0
GoesOrStops {A} N E whole f g r =
    GoesDown f g whole ⊎ ((u : NamedPort A) × E u × IsAtPair N u f g r)

-- how the chain for n abstractions can end beside a walk for n0
abbrev pub IsOnWalk : {A : Type 0} → NamedNet A → (NamedPort A → Type 0) → List (Crossing A) → ℕ →
    ℕ → End A → Type 0
IsOnWalk N E whole n0 n (met f g r) = GoesOrStops N E whole f g r
IsOnWalk N E whole n0 n (left q X) = Unit {0}
IsOnWalk N E whole n0 n undefined = (n < n0) × (n < live N)
IsOnWalk N E whole n0 n budget = ⊥

module _ {A : Type 0} (N : NamedNet A) (is_net : IsNet N) (none : CrossesNoStuck N) (p : ℕ)
    (c0 : Context) (E : NamedPort A → Type 0) (stop : IsStop N E) (whole : List (Crossing A))
    (walk : Goes N E (free p) c0 whole) (n0 n more : ℕ) (sum : n0 ≡ n + more) where
  -- The contexts of the two walks: one and the same; or the same but for a level in which there are
  -- more marks for the path; or the last node was left by slot 0, and no context bars the way any
  -- more.
  pub data Same (made : ℕ) (u : NamedPort A) (d d0 : Context) : Type 0 where
    even : d ≡ d0 → Same made u d d0
    ahead : (j m gone past : ℕ) (b : Context) → more ≡ suc past → d ≡ fill j (os m empty) b →
        d0 ≡ fill j (os (past + suc m) empty) b → n ≡ m + gone → gone ≤ made → Same made u d d0
    past_all : (y : A) → u ≡ slot y 0 → Same made u d d0

  -- the walk is as far as the chain
  record On (made : ℕ) (u : NamedPort A) (d : Context) : Type 0 where
    context : Context
    way : Way N (free p) c0 made u context
    chain : Chain N p c0 made u context
    row : List (Crossing A)
    rest : Goes N E u context row
    part : (z : Crossing A) → IsIn z row → IsIn z whole
    phase : Phase N is_net p made u
    same : Same made u d context

  -- the next crossing of a walk
  record Next (rest : List (Crossing A)) (d : Context) (x : A) (k : Kind) (i s : ℕ) : Type 0 where
    out : ℕ
    after : Context
    crosses_so : Crosses k i s d out after
    row_on : List (Crossing A)
    walk_on : Goes N E (slot x out) after row_on
    part_on : (z : Crossing A) → IsIn z row_on → IsIn z rest
    down : s ≡ 0 → IsIn (fall x) rest

  next_as : (rest : List (Crossing A)) (d : Context) (x x' : A) (k k' : Kind) (i i' s s' : ℕ) →
      x' ≡ x → k' ≡ k → i' ≡ i → s' ≡ s → Next rest d x' k' i' s' → Next rest d x k i s
  next_as rest d x x' k k' i i' s s' e f g h t =
      subst (λ x. Next rest d x k i s) e (subst (λ k. Next rest d x' k i s) f
      (subst (λ i. Next rest d x' k' i s) g (subst (λ s. Next rest d x' k' i' s) h t)))

  -- it stops, or crosses the node that follows
  next_or_stop : (u : NamedPort A) (d : Context) {w : List (Crossing A)} → Goes N E u d w → (x : A)
      (k : Kind) (i s : ℕ) → Linked N u (slot x s) → HasNode N x k i → E u ⊎ Next w d x k i s
  next_or_stop u d (stops e) x k i s l h = inl e
  next_or_stop u d (goes_up {d = e} {x = x'} {w = w} k' i' s' l' h' b z r) x k i s
      l h =
      let q : slot x' (suc s') ≡ slot x s = is_net.one_link u (slot x' (suc s')) (slot x s) l' l in
      let ex : x' ≡ x = cc in
      let es : suc s' ≡ s = cc in
      let o = is_net.one_node x k' k i' i (subst (λ x. HasNode N x k' i') ex h') h in
      inr (next_as (rise x' ∷ w) d x x' k k' i i' s (suc s') ex o.0 o.1 es (record {
        out = 0;
        after = e;
        crosses_so = inward b z;
        row_on = w;
        walk_on = r;
        part_on = λ y a. inr a;
        down = λ y. absurd (omega arith);
      }))
  next_or_stop u d (goes_down {d = e} {x = x'} {w = w} k' i' t' l' h' b z r) x k i
      s l h =
      let q : slot x' 0 ≡ slot x s = is_net.one_link u (slot x' 0) (slot x s) l' l in
      let ex : x' ≡ x = cc in
      let es : 0 ≡ s = cc in
      let o = is_net.one_node x k' k i' i (subst (λ x. HasNode N x k' i') ex h') h in
      inr (next_as (fall x' ∷ w) d x x' k k' i i' s 0 ex o.0 o.1 es (record {
        out = suc t';
        after = e;
        crosses_so = outward b z;
        row_on = w;
        walk_on = r;
        part_on = λ y a. inr a;
        down = λ y. inl refl;
      }))

  next_of : (u : NamedPort A) (d : Context) {w : List (Crossing A)} → Goes N E u d w →
      IsAtNoPair N u → (x : A) (k : Kind) (i s : ℕ) → Linked N u (slot x s) → HasNode N x k i →
      Next w d x k i s
  next_of u d {w} r a x k i s l h = by (next_or_stop u d r x k i s l h)
    where
      by : E u ⊎ Next w d x k i s → Next w d x k i s
      by (inl e) = absurd (stop u e x s l a)
      by (inr z) = z

  -- ---- one crossing more

  -- where the chain's crossing leads, as far as the path's
  record Along (made : ℕ) (x : A) (t : ℕ) (e : Context) (out : ℕ) (after : Context) : Type 0 where
    port : out ≡ t
    same : Same (suc made) (slot x t) e after

  as_even : {made : ℕ} {x : A} {k : Kind} {i s t out : ℕ} {d d0 e after : Context} →
      Crosses k i s d t e → Crosses k i s d0 out after → d ≡ d0 → Along made x t e out after
  as_even {k = k} {i = i} {s = s} {t = t} {out = out} {d = d} {d0 = d0} {e = e}
      {after = after} y z f =
      let o = crosses_one k i s t out d0 e after (subst (λ d. Crosses k i s d t e) f y) z in
      record { port = sym o.0; same = even o.1 }

  module _ (made : ℕ) (x : A) (k : Kind) (i t out : ℕ) (e after : Context) (b : t < arity k)
      (b' : out < arity k) (j m gone past : ℕ) (c : Context) (em : more ≡ suc past)
      (en : n ≡ m + gone) (few : gone ≤ made) where
    as_ahead : (d d0 : Context) → up k i t e ≡ d → up k i out after ≡ d0 →
        d ≡ fill j (os m empty) c → d0 ≡ fill j (os (past + suc m) empty) c →
        Along made x (suc t) e (suc out) after
    as_ahead d d0 y z f f0 =
        by (before k i out b' after j (os (past + m) empty) c (z ∙ f0
        ∙ ap (λ n. fill j (os n empty) c) longer))
      where
        longer : past + suc m ≡ suc (past + m)
        longer = omega arith

        by : Before k i out after j (os (past + m) empty) c → Along made x (suc t) e (suc out) after
        by (moved j' c' g w) =
            let v = injective k i out t (fill j' (os m empty) c') e b' b (w (os m empty) ∙ sym f
            ∙ sym y) in
            record {
              port = ap suc v.0;
              same = ahead j' m gone past c' em (sym v.1) (g
                  ∙ ap (λ n. fill j' (os n empty) c') (sym longer)) en (omega arith);
            }
        by (stripped j' c' g w bars) = split m refl
          where
            split : (m' : ℕ) → m ≡ m' → Along made x (suc t) e (suc out) after
            split zero r = absurd (bars t e (y ∙ f ∙ ap (λ n. fill j (os n empty) c) r))
            split (suc m') r =
                let v = injective k i out t (fill j' (os m' empty) c') e b' b (w (os m' empty)
                ∙ ap (λ n. fill j (os n empty) c) (sym r) ∙ sym f ∙ sym y) in
                let l : past + m ≡ past + suc m' = omega arith in
                record {
                  port = ap suc v.0;
                  same = ahead j' m' (suc gone) past c' em (sym v.1) (g
                      ∙ ap (λ n. fill j' (os n empty) c') l) (omega arith) (omega arith);
                }

    -- where the chain's crossing isn't defined all its marks are used up
    used_up : (d d0 : Context) → up k i out after ≡ d0 → d ≡ fill j (os m empty) c →
        d0 ≡ fill j (os (past + suc m) empty) c → ((s : ℕ) (e : Context) → s < arity k →
        up k i s e ≡ d → ⊥) → n ≤ made
    used_up d d0 z f f0 bars =
        by (before k i out b' after j (os (past + m) empty) c (z ∙ f0
        ∙ ap (λ n. fill j (os n empty) c) longer))
      where
        longer : past + suc m ≡ suc (past + m)
        longer = omega arith

        by : Before k i out after j (os (past + m) empty) c → n ≤ made
        by (moved j' c' g w) =
            absurd (bars out (fill j' (os m empty) c') b' (w (os m empty) ∙ sym f))
        by (stripped j' c' g w h) = split m refl
          where
            split : (m' : ℕ) → m ≡ m' → n ≤ made
            split zero r = omega arith
            split (suc m') r =
                absurd (bars out (fill j' (os m' empty) c') b' (w (os m' empty)
                ∙ ap (λ n. fill j (os n empty) c) (sym r) ∙ sym f))

  go_on : (made : ℕ) (u : NamedPort A) (d : Context) (w : On made u d) → IsAtNoPair N u →
      {x : A} {k : Kind} {i s t : ℕ} {e : Context} → Linked N u (slot x s) → HasNode N x k i →
      Crosses k i s d t e → (z : Next w.row w.context x k i s) →
      Along made x t e z.out z.after
  go_on made u d w a {x = x} {k = k} {i = i} l h y z = by w.same l y z.crosses_so
    where
      by : {s t out : ℕ} {e after : Context} → Same made u d w.context → Linked N u (slot x s) →
          Crosses k i s d t e → Crosses k i s w.context out after → Along made x t e out after
      by (even f) l y y0 = as_even y y0 f
      by (ahead j m gone past b em f f0 en few) l (inward v g) (inward v0 g0) =
          record { port = refl; same = past_all x refl }
      by {e = e} {after = after} (ahead j m gone past b em f f0 en few) l (outward {s = t} v g)
          (outward {s = out} v0 g0) =
          as_ahead made x k i t out e after v v0 j m gone past b em en few d w.context g g0 f f0
      by (past_all y' f) l (inward v g) (inward v0 g0) =
          record { port = refl; same = past_all x refl }
      by (past_all y' f) l (outward v g) (outward {s = out} v0 g0) =
          absurd (stuck N is_net p none c0 made u x k i (suc out) w.way a l h (outward v0 g0) y' f)

  module _ (c : Context) (first : Same 0 (free p) c c0) where
    along : {made : ℕ} {u : NamedPort A} {d : Context} → Chain N p c made u d → On made u d
    along starts = record {
      context = c0;
      way = start;
      chain = starts;
      row = whole;
      rest = walk;
      part = λ z h. h;
      phase = begins N is_net p;
      same = first;
    }
    along (crosses {n = made} {u = u} {d = d} {e = e} {x = x} {k = k} {i = i} {s = s}
        {t = t} h a b l hx y) =
        let w = along h in
        let z = next_of u w.context w.rest a x k i s l hx in
        let o = go_on made u d w a l hx y z in
        subst (λ t. On (suc made) (slot x t) e) o.port (record {
          context = z.after;
          way = on w.way l hx z.crosses_so;
          chain = crosses w.chain a b l hx z.crosses_so;
          row = z.row_on;
          rest = z.walk_on;
          part = λ f m. w.part f (z.part_on f m);
          phase = extend N is_net p none c0 stop made u w.phase w.way a l hx z.crosses_so z.walk_on;
          same = subst (λ t. Same (suc made) (slot x t) e z.after) (sym o.port) o.same;
        })

  meets_on : (made : ℕ) (u : NamedPort A) (d : Context) (w : On made u d) (f g : A) (r : Rule) →
      IsAtPair N u f g r → GoesOrStops N E whole f g r
  meets_on made u d w f g r y = by y.principal
    where
      by : IsPrincipalOf f g u → GoesOrStops N E whole f g r
      by (inl e) = go (next_or_stop u w.context w.rest g y.active.l y.active.j 0
          (subst (λ u. Linked N u (slot g 0)) (sym e) y.active.faces.linked) y.active.faces.second)
        where
          go : E u ⊎ Next w.row w.context g y.active.l y.active.j 0 → GoesOrStops N E whole f g r
          go (inl s) = inr (u, s, y)
          go (inr z) = inl (inr (w.part (fall g) (z.down refl)))
      by (inr e) = go (next_or_stop u w.context w.rest f y.active.k y.active.i 0
          (subst (λ u. Linked N u (slot f 0)) (sym e)
          (linked_sym N (slot f 0) (slot g 0) y.active.faces.linked)) y.active.faces.first)
        where
          go : E u ⊎ Next w.row w.context f y.active.k y.active.i 0 → GoesOrStops N E whole f g r
          go (inl s) = inr (u, s, y)
          go (inr z) = inl (inl (w.part (fall f) (z.down refl)))

  barred_on : (made : ℕ) (u : NamedPort A) (d : Context) (w : On made u d) (x : A) (k : Kind)
      (i s : ℕ) → IsAtNoPair N u → Linked N u (slot x s) → HasNode N x k i →
      ((v : NamedPort A) (e : Context) → Through N (slot x s) d v e → ⊥) → (n < n0) × (n < live N)
  barred_on made u d w x k i s a l h b =
      by l b (next_of u w.context w.rest a x k i s l h).crosses_so w.same
    where
      by : {s out : ℕ} {after : Context} → Linked N u (slot x s) →
          ((v : NamedPort A) (e : Context) → Through N (slot x s) d v e → ⊥) →
          Crosses k i s w.context out after → Same made u d w.context → (n < n0) × (n < live N)
      by l b (inward {s = s} v g) z = absurd (b (slot x 0) (up k i s d) (through h (inward v refl)))
      by {after = after} l b (outward {s = out} v g) (even f) =
          absurd (b (slot x (suc out)) after (through h (outward v (g ∙ sym f))))
      by l b (outward {s = out} v g) (past_all y f) =
          absurd (stuck N is_net p none c0 made u x k i (suc out) w.way a l h (outward v g) y f)
      by {after = after} l b (outward {s = out} v g) (ahead j m gone past c em f f0 en few) =
          let t = used_up made x k i out out after after v v j m gone past c em en few d w.context g
          f f0 (λ s e v g. b (slot x (suc s)) e (through h (outward v g))) in
          (omega arith, low t w.phase)
        where
          low : n ≤ made → Phase N is_net p made u → n < live N
          low t (falling y) = let z =
              few_falling N is_net p (suc made) (slot x 1)
              (fall_on N is_net p made u x 0 (k, i, h) l y) in omega arith
          low t (rising y) =
              absurd (stuck N is_net p none c0 made u x k i (suc out) w.way a l h (outward v g)
              y.node y.at)

  ended : (made : ℕ) (u : NamedPort A) (d : Context) (end : End A) → On made u d →
      Stands N made u d end → IsOnWalk N E whole n0 n end
  ended made u d end w (at_pair {f = f} {g = g} {r = r} y) = meets_on made u d w f g r y
  ended made u d end w (at_port l) = tt
  ended made u d end w (barred {x = x} {s = s} a l b) = let h =
      (is_net.of_ports u (slot x s) l).1 in barred_on made u d w x h.0 h.1 s a l h.2 b
  ended made u d end w (at_last {x = x} {s = s} a l t few) =
      let h = (is_net.of_ports u (slot x s) l).1 in
      let z = next_of u w.context w.rest a x h.0 h.1 s l h.2 in
      let m = few_crossed N is_net p (suc made) (slot x z.out)
      (extend N is_net p none c0 stop made u w.phase w.way a l h.2 z.crosses_so z.walk_on) in
      absurd (omega arith)

  pub on_walk : (c : Context) → Same 0 (free p) c c0 → (end : End A) → Ends N p c end →
      IsOnWalk N E whole n0 n end
  on_walk c first end e = ended e.made e.port e.context end (along c first e.chain) e.stands

  -- where the chain meets a pair, that of the walk does
  abbrev IsMetToo : End A → Type 0
  IsMetToo (met f g r) = Ends N p c0 (met f g r)
  IsMetToo (left q X) = Unit {0}
  IsMetToo undefined = Unit {0}
  IsMetToo budget = Unit {0}

  met_too : (made : ℕ) (u : NamedPort A) (d : Context) (end : End A) → On made u d →
      Stands N made u d end → IsMetToo end
  met_too made u d end w (at_pair y) = record {
    made = made;
    port = u;
    context = w.context;
    chain = w.chain;
    stands = at_pair y;
  }
  met_too made u d end w (at_port l) = tt
  met_too made u d end w (barred a l b) = tt
  met_too made u d end w (at_last a l t few) = tt

  pub met_alike : (c : Context) → Same 0 (free p) c c0 → (end : End A) → Ends N p c end →
      IsMetToo end
  met_alike c first end e = met_too e.made e.port e.context end (along c first e.chain) e.stands

module _ {A : Type 0} (N : NamedNet A) (is_net : IsNet N) (none : CrossesNoStuck N) (p : ℕ)
    (ls : List Level) (E : NamedPort A → Type 0) (stop : IsStop N E) (w : List (Crossing A))
    (n0 n : ℕ) (walk : Goes N E (free p) (asked ls n0) w) where
  -- the marks with which the chain for n abstractions and the walk begin
  begin : (more : ℕ) (sum : n0 ≡ n + more) →
      Same N is_net none p (asked ls n0) E stop w walk n0 n more sum 0 (free p) (asked ls n)
      (asked ls n0)
  begin zero sum = let z : n ≡ n0 = omega arith in even (ap (asked ls) z)
  begin (suc past) sum =
      let b = asked_filled ls in
      let z : n0 ≡ past + suc n = omega arith in
      ahead (length ls) n 0 past b.0 refl (b.1 n) (b.1 n0
      ∙ ap (λ n. fill (length ls) (os n empty) b.0) z) (omega arith) (omega arith)

  with_more : (more : ℕ) → n0 ≡ n + more → (end : End A) → Ends N p (asked ls n) end →
      IsOnWalk N E w n0 n end
  with_more more sum end e =
      on_walk N is_net none p (asked ls n0) E stop w walk n0 n more sum (asked ls n)
      (begin more sum) end e

  pub chain_is_on_walk : (end : End A) → n ≤ n0 → Ends N p (asked ls n) end →
      IsOnWalk N E w n0 n end
  chain_is_on_walk end le e = with_more (n0 - n) (omega arith) end e

  met_with_more : (more : ℕ) → n0 ≡ n + more → (f g : A) (r : Rule) →
      Ends N p (asked ls n) (met f g r) → Ends N p (asked ls n0) (met f g r)
  met_with_more more sum f g r e =
      met_alike N is_net none p (asked ls n0) E stop w walk n0 n more sum (asked ls n)
      (begin more sum) (met f g r) e

  pub met_on_walk : (f g : A) (r : Rule) → n ≤ n0 → Ends N p (asked ls n) (met f g r) →
      Ends N p (asked ls n0) (met f g r)
  met_on_walk f g r le e = met_with_more (n0 - n) (omega arith) f g r e

module _ {A : Type 0} where
  pub chains_meet_alike : ChainsMeetAlike A
  chains_meet_alike N is_net none p ls n0 q X t n f g r le e =
      met_on_walk N is_net none p ls (AtFree N q) (free_stops N is_net q) (row t) n0 n
      (path_goes N t) f g r le e

  pub chain_is_on_path : ChainIsOnPath A
  chain_is_on_path N is_net none p ls n0 q X t n end le e =
      by end (chain_is_on_walk N is_net none p ls (AtFree N q) (free_stops N is_net q) (row t) n0 n
      (path_goes N t) end le e)
    where
      by : (end : End A) → IsOnWalk N (AtFree N q) (row t) n0 n end → IsOnPath N (row t) n0 n end
      by (met f g r) (inl z) = z
      by (met f g r) (inr (u, l, y)) = absurd (no_free N is_net u q l f g r y)
      by (left q' X') z = z
      by undefined z = z
      by budget z = absurd z
