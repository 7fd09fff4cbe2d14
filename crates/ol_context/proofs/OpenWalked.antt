-- Walks of open contexts.
use Rattle.std.proofs.Common.{◌≡◌, ℕ, ◌+◌, ◌-◌, ◌<◌, ◌≤◌, ◌⊎◌, inl, inr, List, [], ◌∷◌, ◌++◌}
use Rattle.std.proofs.Common.{length, map, refl, sym, ap, ◌∙◌, subst, arith, add-one}
use Rattle.std.proofs.lemmas.List.{length-map}
use Rattle.ol_net.specs.declared.parts.Port.{Port}
use Rattle.ol_net.specs.declared.parts.Port.TheVariants.{Free, Of}
use Rattle.ol_net.specs.Graph.{Graph}
use Rattle.ol_net.specs.Nets.{NamedNet, free, Linked, IsNet, IsPort}
use Rattle.ol_net.specs.Numbered.{numbered_port, net_of}
use Rattle.ol_context.specs.Contexts.{Level, empty, Context, levels, cons, at_level}
use Rattle.ol_context.specs.Paths.{IsBarred}
use Rattle.ol_context.specs.Shapes.{value, AreHeld, Extends, context_of}
use Rattle.ol_context.specs.Asked.{os, asked}
use Rattle.ol_context.specs.Open.{Open, IsOpenFor, open_at, opened, IsHeldOpen}
use Rattle.ol_context.specs.Passed.{OpenThrough, IsOpenBarred}
use Rattle.ol_context.specs.Ways.{Way, start, Exits, WalkStands}
use Rattle.ol_context.specs.OpenWalkAnswers.{BreaksOff, AllBelowBreakOff, AllBreakOff}
use Rattle.ol_context.specs.OpenWalkAnswers.{OpenExitsExactly, OpenStopsExactly, OpenStandsExactly}
use Rattle.ol_context.specs.declared.answers.OpenWalk.TheVariants.{Exit, Undefined, Budget}
use Rattle.ol_context.proofs.Shapes.{extends_refl, extends_trans}
use Rattle.ol_context.proofs.LevelLists.{levels_cons}
use Rattle.ol_context.proofs.Ways.{way_exits, way_on}
use Rattle.ol_context.proofs.Walked.{IsNotFree, through_port}
use Rattle.ol_context.proofs.Exits.{Three, three, no_stop, no_stand, no_stand_past, stop_one, exit_exits}
use Rattle.ol_context.proofs.Passing.{covers_least, covers_above, covers_or}

-- the question with the number of o not known
asked_open : (ls : List Level) (w : Level) → at_level (length ls) (cons w) (levels ls) ≡ levels (ls ++ w ∷ [])
asked_open [] w = sym (levels_cons w [])
asked_open (v ∷ ls) w = ap (cons v) (asked_open ls w) ∙ sym (levels_cons v (ls ++ w ∷ []))

opened_is : (vs : List Level) (ns : List ℕ) (n : ℕ) → open_at vs (opened ns) n ≡ asked (map (value vs) ns) n
opened_is vs ns n =
    let e : n - 0 ≡ n = omega arith in
    ap (λ j. at_level (length ns) (cons (os j empty)) (context_of vs ns)) e
    ∙ ap (λ i. at_level i (cons (os n empty)) (context_of vs ns)) (sym (length-map ns (value vs)))
    ∙ asked_open (map (value vs) ns) (os n empty)

-- After some crossings the walk leaves by one port for all numbers for which the open context
-- stands, with the context there;
-- for all others some crossing was not defined.
pub record OpenWalking (g : Graph) (from : ℕ) (ls : List Level) (old vs : List Level) (X : Open)
    (at : Port) (made edges : ℕ) (first ticks : ℕ) : Type 0 where
  pub extends : Extends old vs
  pub held : IsHeldOpen vs X
  pub within : made ≤ edges
  pub few : X.lams ≤ made
  pub ways : (n : ℕ) → IsOpenFor X n → Way (net_of g) (free from) (asked ls n) made (numbered_port at) (open_at vs X n)
  pub others : (n : ℕ) → (IsOpenFor X n → ⊥) → (k : ℕ) × (k ≤ made) × BreaksOff (net_of g) from ls edges n k
  pub port : IsPort (net_of g) (numbered_port at)
  pub counted : ticks ≡ first + made

pub begins_open : (g : Graph) (from : ℕ) (old : List Level) (ns : List ℕ) (X : Open)
    (edges first : ℕ) → X ≡ opened ns → AreHeld old ns → from < g.free →
    OpenWalking g from (map (value old) ns) old old X (Free from) 0 edges first first
begins_open g from old ns X edges first e h b = subst
    (λ (X : Open). OpenWalking g from (map (value old) ns) old old X (Free from) 0 edges first first) (sym e) (record {
      extends = extends_refl old;
      held = (h, tt);
      within = omega arith;
      few = omega arith;
      ways = λ n c. subst (Way (net_of g) (free from) (asked (map (value old) ns) n) 0 (free from))
          (sym (opened_is old ns n)) start;
      others = λ n c. absurd (c (omega arith));
      port = b;
      counted = omega arith;
    })

module _ (g : Graph) (from : ℕ) (ls old : List Level) (vs : List Level) (X : Open) (p : Port)
    (made edges first ticks : ℕ) (w : OpenWalking g from ls old vs X p made edges first ticks) where
  pub all_below : AllBelowBreakOff (net_of g) from ls edges X.lams
  all_below m b = let t = w.others m (λ c. let d = covers_above X.leaf X.lams m c in absurd (omega arith)) in (t.0, t.2)

  module _ (q : Port) (l : Linked (net_of g) (numbered_port p) (numbered_port q)) where
    pub exits_open : (k : ℕ) → q ≡ Free k →
        Exits (net_of g) (free from) (asked ls X.lams) edges k (open_at vs X X.lams) made
    exits_open k e =
        way_exits (net_of g) edges made k (w.ways X.lams (covers_least X.leaf X.lams))
        (subst (λ q. Linked (net_of g) (numbered_port p) (numbered_port q)) e l) w.within

  stands_for : (q : Port) → Linked (net_of g) (numbered_port p) (numbered_port q) → IsNotFree q →
      (n : ℕ) → IsOpenFor X n → WalkStands (net_of g) (free from) (asked ls n) made
  stands_for (Free k) l f n c = absurd (f k refl)
  stands_for (Of x s) l f n c = record {
    port = numbered_port p;
    context = open_at vs X n;
    way = w.ways n c;
    node = x.0;
    at = s;
    linked = l;
  }

  pub stands_open : (q : Port) → Linked (net_of g) (numbered_port p) (numbered_port q) →
      IsNotFree q → edges ≤ made → WalkStands (net_of g) (free from) (asked ls X.lams) edges
  stands_open q l f b = let i = w.within in let e : made ≡ edges = omega arith in
      subst (WalkStands (net_of g) (free from) (asked ls X.lams)) e
      (stands_for q l f X.lams (covers_least X.leaf X.lams))

  stops_for : (q : Port) → Linked (net_of g) (numbered_port p) (numbered_port q) → IsNotFree q →
      made < edges → (n : ℕ) → IsOpenFor X n →
      IsBarred (net_of g) (numbered_port q) (open_at vs X n) → BreaksOff (net_of g) from ls edges n (made + 1)
  stops_for (Free k) l f b n c d = absurd (f k refl)
  stops_for (Of x s) l f b n c d = record {
    made = made;
    tried = add-one made;
    within = omega arith;
    stands = record {
      port = numbered_port p;
      context = open_at vs X n;
      way = w.ways n c;
      node = x.0;
      at = s;
      linked = l;
    };
    barred = d;
  }

  module _ (q : Port) (l : Linked (net_of g) (numbered_port p) (numbered_port q)) (f : IsNotFree q)
      (b : made < edges) where
    pub goes_on_open : (ws : List Level) (Y : Open) (r : Port) (now : ℕ) → Extends vs ws →
        IsHeldOpen ws Y → Y.lams ≤ X.lams + 1 → now ≡ ticks + 1 →
        OpenThrough (net_of g) (numbered_port q) (numbered_port r) vs ws X Y →
        OpenWalking g from ls old ws Y r (made + 1) edges first now
    goes_on_open ws Y r now x h y t o =
        let few = w.few in
        let counted = w.counted in
        let least = covers_least Y.leaf Y.lams in
        record {
          extends = extends_trans old vs ws w.extends x;
          held = h;
          within = omega arith;
          few = omega arith;
          ways = λ n c. rw add-one (way_on (net_of g) (w.ways n (o.within n c)) l (o.made n c));
          others = others;
          port = through_port (net_of g) (numbered_port q) (numbered_port r) (open_at vs X Y.lams)
              (open_at ws Y Y.lams) (o.made Y.lams least);
          counted = omega arith;
        }
      where
        others : (n : ℕ) → (IsOpenFor Y n → ⊥) → (k : ℕ) × (k ≤ made + 1) × BreaksOff (net_of g) from ls edges n k
        others n c = go (covers_or X.leaf X.lams n)
          where
            go : IsOpenFor X n ⊎ (IsOpenFor X n → ⊥) → (k : ℕ) × (k ≤ made + 1) × BreaksOff (net_of g) from ls edges n k
            go (inl d) = (made + 1, omega arith, stops_for q l f b n d (o.barred n d c))
            go (inr d) = let t = w.others n d in let a = t.1 in (t.0, omega arith, t.2)

    pub all_stop : IsNet (net_of g) → IsOpenBarred (net_of g) (numbered_port q) vs X →
        AllBreakOff (net_of g) from ls edges X.lams (made + 1)
    all_stop is_net o = record {
      all = all;
      last = stops_for q l f b X.lams (covers_least X.leaf X.lams)
          (o X.lams (covers_least X.leaf X.lams));
      least = least;
    }
      where
        all : (m : ℕ) → (j : ℕ) × (j ≤ made + 1) × BreaksOff (net_of g) from ls edges m j
        all m = go (covers_or X.leaf X.lams m)
          where
            go : IsOpenFor X m ⊎ (IsOpenFor X m → ⊥) → (j : ℕ) × (j ≤ made + 1) × BreaksOff (net_of g) from ls edges m j
            go (inl d) = (made + 1, omega arith, stops_for q l f b m d (o m d))
            go (inr d) = let t = w.others m d in let a = t.1 in (t.0, omega arith, t.2)

        least : (m : ℕ) → m < X.lams → BreaksOff (net_of g) from ls edges m (made + 1) → ⊥
        least m c s =
            let t = w.others m (λ d. let a = covers_above X.leaf X.lams m d in absurd (omega arith)) in
            let a = t.1 in
            let e = stop_one (net_of g) is_net (free from) (asked ls m) edges t.0 (made + 1) t.2 s in
            absurd (omega arith)

-- the answers, each from its cause
module _ (N : NamedNet ℕ) (is_net : IsNet N) (p : ℕ) (ls : List Level) (edges : ℕ) where
  exit_breaks : (n q : ℕ) (d : Context) (k j : ℕ) → Exits N (free p) (asked ls n) edges q d k →
      BreaksOff N p ls edges n j → ⊥
  exit_breaks n q d k j x s = no_stop N is_net (free p) (asked ls n) q d x.path edges j s

  stand_breaks : (n j : ℕ) → WalkStands N (free p) (asked ls n) edges → BreaksOff N p ls edges n j → ⊥
  stand_breaks n j t s = no_stand_past N is_net (free p) (asked ls n) edges j s t

  exit_stands : (n q : ℕ) (d : Context) (k : ℕ) → Exits N (free p) (asked ls n) edges q d k →
      WalkStands N (free p) (asked ls n) edges → ⊥
  exit_stands n q d k x t = let l = x.long in let b = x.within in
      no_stand N is_net (free p) (asked ls n) q d x.path edges (omega arith) t

  -- the first that doesn't break off is one
  first_one : (m n : ℕ) → ((j : ℕ) → BreaksOff N p ls edges m j → ⊥) →
      ((j : ℕ) → BreaksOff N p ls edges n j → ⊥) → AllBelowBreakOff N p ls edges m →
      AllBelowBreakOff N p ls edges n → m ≡ n
  first_one m n x y a b = go (three m n)
    where
      go : Three m n → m ≡ n
      go (inl (inl l)) = let t = b m l in absurd (x t.0 t.1)
      go (inl (inr e)) = e
      go (inr l) = let t = a n l in absurd (y t.0 t.1)

  module _ (vs : List Level) (n q : ℕ) (ms : List ℕ) (k : ℕ)
      (x : Exits N (free p) (asked ls n) edges q (context_of vs ms) k) (b : AllBelowBreakOff N p ls edges n) where
    pub open_exit_exits : OpenExitsExactly N p ls edges vs (Exit n q ms k)
    open_exit_exits n' q' d k' = (
      λ e. (
        subst (λ n. Exits N (free p) (asked ls n) edges q' d k') e.0
            ((exit_exits N is_net p (asked ls n) edges vs q ms k x q' d k').0 (e.1, e.2, e.3)),
        subst (AllBelowBreakOff N p ls edges) e.0 b,
      ),
      λ y.
          let e = first_one n n' (λ j. exit_breaks n q (context_of vs ms) k j x)
          (λ j. exit_breaks n' q' d k' j y.0) b y.1 in
          let z = (exit_exits N is_net p (asked ls n) edges vs q ms k x q' d k').1
          (subst (λ n. Exits N (free p) (asked ls n) edges q' d k') (sym e) y.0) in
          (e, z.0, z.1, z.2),
    )

    pub open_exit_stops : OpenStopsExactly N p ls edges (Exit n q ms k)
    open_exit_stops n' k' = (
      λ e. absurd (cc),
      λ y. let t = y.all n in
          absurd (exit_breaks n q (context_of vs ms) k t.0 x t.2),
    )

    pub open_exit_stands : OpenStandsExactly N p ls edges (Exit n q ms k)
    open_exit_stands n' = (
      λ e. absurd (cc),
      λ y.
          let e = first_one n n' (λ j. exit_breaks n q (context_of vs ms) k j x) (λ j. stand_breaks n' j y.0) b y.1 in
          absurd (exit_stands n q (context_of vs ms) k x
          (subst (λ n. WalkStands N (free p) (asked ls n) edges) (sym e) y.0)),
    )

  module _ (vs : List Level) (n : ℕ) (x : WalkStands N (free p) (asked ls n) edges)
      (b : AllBelowBreakOff N p ls edges n) where
    pub open_budget_exits : OpenExitsExactly N p ls edges vs (Budget n)
    open_budget_exits n' q' d k' = (
      λ h. absurd h,
      λ y.
          let e = first_one n n' (λ j. stand_breaks n j x) (λ j. exit_breaks n' q' d k' j y.0) b y.1 in
          absurd (exit_stands n' q' d k' y.0 (subst (λ n. WalkStands N (free p) (asked ls n) edges) e x)),
    )

    pub open_budget_stops : OpenStopsExactly N p ls edges (Budget n)
    open_budget_stops n' k' = (λ e. absurd (cc), λ y. let t = y.all n in absurd (stand_breaks n t.0 x t.2))

    pub open_budget_stands : OpenStandsExactly N p ls edges (Budget n)
    open_budget_stands n' = (
      λ e. let i : n ≡ n' = number n' e in
          (subst (λ n. WalkStands N (free p) (asked ls n) edges) i x, subst (AllBelowBreakOff N p ls edges) i b),
      λ y. ap Budget (first_one n n' (λ j. stand_breaks n j x) (λ j. stand_breaks n' j y.0) b y.1),
    )
      where
        number : (n' : ℕ) → Budget n ≡ Budget n' → n ≡ n'
        number n' e = cc

  module _ (vs : List Level) (n k : ℕ) (x : AllBreakOff N p ls edges n k) where
    pub open_undefined_exits : OpenExitsExactly N p ls edges vs (Undefined n k)
    open_undefined_exits n' q' d k' = (
      λ h. absurd h,
      λ y. let t = x.all n' in
          absurd (exit_breaks n' q' d k' t.0 y.0 t.2),
    )

    pub open_undefined_stands : OpenStandsExactly N p ls edges (Undefined n k)
    open_undefined_stands n' = (λ e. absurd (cc), λ y. let t = x.all n' in absurd (stand_breaks n' t.0 y.0 t.2))

    pub open_undefined_stops : OpenStopsExactly N p ls edges (Undefined n k)
    open_undefined_stops n' k' = (
      λ e. let i = numbers n' k' e in
          subst (λ n. AllBreakOff N p ls edges n k') i.0 (subst (AllBreakOff N p ls edges n) i.1 x),
      λ y. same n' k' y,
    )
      where
        numbers : (n' k' : ℕ) → Undefined n k ≡ Undefined n' k' → (n ≡ n') × (k ≡ k')
        numbers n' k' e = let a : n ≡ n' = cc in let b : k ≡ k' = cc in (a, b)

        -- where a walk breaks off is one number
        at_most : (n k n' k' : ℕ) → AllBreakOff N p ls edges n k → AllBreakOff N p ls edges n' k' → k ≤ k'
        at_most n k n' k' a b = let t = b.all n in let u = t.1 in
            let e = stop_one N is_net (free p) (asked ls n) edges t.0 k t.2 a.last in omega arith

        same : (n' k' : ℕ) → AllBreakOff N p ls edges n' k' → Undefined n k ≡ Undefined n' k'
        same n' k' y =
            let a = at_most n k n' k' x y in
            let b = at_most n' k' n k y x in
            let e : k ≡ k' = omega arith in
            ap (λ n. Undefined n k) (least n' (subst (AllBreakOff N p ls edges n') (sym e) y)) ∙ ap (Undefined n') e
          where
            least : (n' : ℕ) → AllBreakOff N p ls edges n' k → n ≡ n'
            least n' y = go (three n n')
              where
                go : Three n n' → n ≡ n'
                go (inl (inl l)) = absurd (y.least n l x.last)
                go (inl (inr e)) = e
                go (inr l) = absurd (x.least n' l y.last)
