-- The carets stand under the redex that comes next.
use Rattle.std.proofs.Common.{◌≡◌, ℕ, zero, suc, ◌+◌, ◌-◌, ◌<◌, ◌≤◌, ◌⊎◌, inl, inr, Bool, true, false, List, [], ◌∷◌, ◌++◌, take, codes, length}
use Rattle.std.proofs.Common.{append_assoc}
use Rattle.std.proofs.Common.{Option, Some, None, IsSome, refl, sym, ap, ◌∙◌, subst, eqb-true, arith}
use Rattle.std.specs.Prelude.{◌==◌, if◌then◌else◌, slice_get, slice_index_or, is_some}
use Rattle.std.specs.Option.{option_map}
use Rattle.std.proofs.lemmas.Bool.{and_parts}
use Rattle.std.proofs.lemmas.List.{append-nil, length-map, length_push}
use Rattle.std.proofs.lemmas.Option.{same_Some}
use Rattle.ol_term.specs.Trees as tree
use Rattle.ol_term.specs.Trees.{Tree, is_named_below}
use Rattle.ol_term.specs.BinderNames.{binder_name}
use Rattle.ol_parse.specs.Grammar.{Named, var, lam, app}
use Rattle.ol_term.specs.NameLists.{position_of}
use Rattle.ol_parse.specs.Numbered.{var_at, numbered}
use Rattle.ol_beta.specs.Beta.{contracted, applied}
use Rattle.ol_beta.proofs.Redexes.{some_map}
use Rattle.ol_strategies.proofs.Nexts.{next_is_redex}
use Rattle.ol_steps.specs.Marks.{part}
use Rattle.ol_steps.specs.Lettered.{lettered}
use Rattle.ol_steps.specs.TextLaws.{LeadsToApplication, here, into_body, into_function, into_argument}
use Rattle.ol_steps.proofs.LetteredTexts.{lettered_text}
use Rattle.ol_steps.proofs.MarksUnder.{mark_is_under}
use Rattle.ol_steps.specs.Binders as binders
use Rattle.ol_steps.specs.Binders.{Binders, Fits, names_in_argument, names_in_body, names_in_function}
use Rattle.ol_steps.specs.Naming as own
use Rattle.ol_steps.specs.Folded.{value_at, or_name, all_folded, folded_round, folded_at, pruned}
use Rattle.ol_steps.specs.LetLaws.{unfolded, subterm_along}
use Rattle.ol_steps.proofs.Complete.{root_is}
use Rattle.ol_steps.proofs.Values.{LeadsTo, leads_to}
use Rattle.ol_steps.specs.Lets.{LetRow, values_of_lets}
use Rattle.ol_steps.proofs.WordNumbers.{AreEven, numbered_so, read_value, none_worded, unfolded_worded, worded_fits, worded_part}
use Rattle.ol_steps.proofs.ValuesPutIn.{unfolded_is_term, no_value_no_change, folded_fits}
use Rattle.ol_steps.specs.declared.stepping.Shown.{Shown}
use Rattle.ol_steps.specs.Steps.{shown_term}
use Rattle.ol_steps.specs.Words.{Glossary, written_number, worded}
use Rattle.ol_steps.specs.StepLaws.{IsRedex, MarksRedex, RedexIsMarked, StandsForAbstraction, IsFoldedRedex, FoldedRedexIsMarked}
use Rattle.ol_steps.specs.StepLaws.{leads_to_part, binders_round, binders_along, UnfoldsToNext}
use Rattle.ol_steps.specs.StepLaws.{PartsAreThere, BindersAlongFit, NamedPartIsSubterm, LetteredPartIsSubterm, PartIsRead}

-- one move more
pub take_on : (ms : List ℕ) (k m : ℕ) → slice_get ms k ≡ Some m → take (suc k) ms ≡ take k ms ++ m ∷ []
take_on [] k m h = absurd (cc)
take_on (d ∷ ms) zero m h = let is : d ≡ m = cc in ap (λ (x : ℕ). x ∷ []) is
take_on (d ∷ ms) (suc k) m h = ap (λ (bs : List ℕ). d ∷ bs) (take_on ms k m h)

-- ---- a term with names is shown for a tree

abbrev Shows : List (List ℕ) → Tree → Named → Type 0
Shows names (tree.var k) (var x) = Unit {0}
Shows names (tree.free k) (var x) = x ≡ slice_index_or names k []
Shows names (tree.lam t) (lam x u) = Shows names t u
Shows names (tree.app f a) (app g b) = Shows names f g × Shows names a b
Shows names _ _ = ⊥

lettered_shows : (names : List (List ℕ)) (n : ℕ) (t : Tree) → Shows names t (lettered names n t)
lettered_shows names n (tree.var k) = tt
lettered_shows names n (tree.free k) = refl
lettered_shows names n (tree.lam t) = lettered_shows names (n + 1) t
lettered_shows names n (tree.app f a) = (lettered_shows names n f, lettered_shows names n a)

named_shows : (names round : List (List ℕ)) (t : Tree) (s : Binders) → Fits t s → Shows names t (own.named names round t s)
named_shows names round (tree.var k) s h = tt
named_shows names round (tree.free k) s h = refl
named_shows names round (tree.lam t) binders.leaf h = absurd h
named_shows names round (tree.lam t) (binders.lam x s) h =
    named_shows names (own.primed (own.used 1 names round t) x ∷ round) t s h
named_shows names round (tree.lam t) (binders.app r s) h = absurd h
named_shows names round (tree.app f a) binders.leaf h = absurd h
named_shows names round (tree.app f a) (binders.lam x s) h = absurd h
named_shows names round (tree.app f a) (binders.app r s) h =
    (named_shows names round f r h.0, named_shows names round a s h.1)

-- ---- an address leads to an application of which something holds

abbrev Leads : (Named → Type 0) → Named → List ℕ → Type 0
Leads R u at = LeadsToApplication u at × R (part u at)

under : (R : Named → Type 0) (x : List ℕ) (t : Named) (at : List ℕ) (m : ℕ) → m ≡ 0 → Leads R t at →
    Leads R (lam x t) (m ∷ at)
under R x t at m e h = subst (λ (k : ℕ). Leads R (lam x t) (k ∷ at)) (sym e) (into_body h.0, h.1)

left : (R : Named → Type 0) (f a : Named) (at : List ℕ) (m : ℕ) → m ≡ 1 → Leads R f at → Leads R (app f a) (m ∷ at)
left R f a at m e h = subst (λ (k : ℕ). Leads R (app f a) (k ∷ at)) (sym e) (into_function h.0, h.1)

right : (R : Named → Type 0) (f a : Named) (at : List ℕ) (m : ℕ) → m ≡ 2 → Leads R a at → Leads R (app f a) (m ∷ at)
right R f a at m e h = subst (λ (k : ℕ). Leads R (app f a) (k ∷ at)) (sym e) (into_argument h.0, h.1)

-- ---- that of a redex does, where a tree is folded round it

got_value : (vs : List Tree) (i : ℕ) (t : Tree) → i < length vs → slice_index_or vs i t ≡ t → slice_get vs i ≡ Some t
got_value [] i t l e = absurd (omega (arith, l))
got_value (v ∷ vs) zero t l e = ap (λ (u : Tree). Some u) e
got_value (v ∷ vs) (suc i) t l e = got_value vs i t (omega (arith, l)) e

module _ (g : Glossary) where
  abbrev vs : List Tree
  vs = values_of_lets g.rows

  -- the name of a value that is an abstraction
  abstraction : (b : Tree) (k : ℕ) (x : List ℕ) → g.first ≤ k → k < g.first + length vs →
      slice_index_or vs (k - g.first) (tree.lam b) ≡ tree.lam b → x ≡ slice_index_or g.names k [] →
      StandsForAbstraction g (var x)
  abstraction b k x from within value e =
      let i : k ≡ g.first + (k - g.first) = omega (arith, from) in (
        k - g.first,
        b,
        got_value vs (k - g.first) (tree.lam b) (omega (arith, from, within)) value,
        e ∙ ap (λ (j : ℕ). slice_index_or g.names j []) i,
      )

  -- the function of the redex
  function : (b : Tree) (r : Binders) (o : Option ℕ) → value_at g.first vs (tree.lam b) ≡ o → (f : Named) →
      Shows g.names (worded g (or_name o (tree.lam (all_folded g.first vs b))) r) f → StandsForAbstraction g f
  function b r None e (var x) s = absurd s
  function b r None e (lam x u) s = tt
  function b r None e (app f a) s = absurd s
  function b r (Some k) e (var x) s = go (written_number g k r) (numbered_so g k r) s
    where
      l : LeadsTo g.first vs (tree.lam b) k
      l = leads_to g.first vs (tree.lam b) k e

      go : (m : ℕ) → (m ≡ k) ⊎ AreEven g k m → x ≡ slice_index_or g.names m [] → StandsForAbstraction g (var x)
      go m (inl same) i = abstraction b k x l.from l.within (l.value (tree.lam b))
          (i ∙ ap (λ (j : ℕ). slice_index_or g.names j []) same)
      go m (inr n) i =
          let all : length vs ≡ length g.rows = length-map g.rows (λ (row : LetRow). row.value) in
          let within = n.other_within in
          abstraction b m x n.other_from (omega (arith, all, within))
          (read_value g.rows (m - g.first) n.other (tree.lam b) n.there ∙ n.value
          ∙ sym (read_value g.rows (k - g.first) n.row (tree.lam b) n.here) ∙ l.value (tree.lam b)) i
  function b r (Some k) e (lam x u) s = absurd s
  function b r (Some k) e (app f a) s = absurd s

  root : (f c : Tree) (r : Binders) (w : Named) →
      Shows g.names (worded g (tree.app (all_folded g.first vs f) (all_folded g.first vs c)) r) w →
      IsSome (applied f c) → Leads (IsFoldedRedex g) w []
  root (tree.var k) c r w s h = absurd (cc)
  root (tree.free k) c r w s h = absurd (cc)
  root (tree.lam b) c r (var x) s h = absurd s
  root (tree.lam b) c r (lam x u) s h = absurd s
  root (tree.lam b) c r (app f a) s h =
      (here, (f, a, refl, function b (names_in_function r) (value_at g.first vs (tree.lam b)) refl f s.0))
  root (tree.app f a) c r w s h = absurd (cc)

  abbrev Found : Tree → Option Tree → List ℕ → Type 0
  Found x o at = (w : Named) → Shows g.names x w → IsSome o → Leads (IsFoldedRedex g) w at

  body : (b : Bool) (m : ℕ) → (m == 0) ≡ b → (x : Tree) (w : Named) (at : List ℕ) (o : Option Tree) → Found x o at →
      Shows g.names (tree.lam x) w → IsSome (if b then option_map tree.lam o else None) →
      Leads (IsFoldedRedex g) w (m ∷ at)
  body b m e x (var y) at o more s h = absurd s
  body true m e x (lam y u) at o more s h =
      under (IsFoldedRedex g) y u at m (eqb-true m 0 e) (more u s (some_map tree.lam o h))
  body false m e x (lam y u) at o more s h = absurd (cc)
  body b m e x (app u v) at o more s h = absurd s

  argument : (b : Bool) (m : ℕ) → (m == 2) ≡ b → (f y z : Tree) (w : Named) (at : List ℕ) (o : Option Tree) →
      Found z o at → Shows g.names (tree.app y z) w → IsSome (if b then option_map (tree.app f) o else None) →
      Leads (IsFoldedRedex g) w (m ∷ at)
  argument b m e f y z (var x) at o more s h = absurd s
  argument b m e f y z (lam x u) at o more s h = absurd s
  argument true m e f y z (app u v) at o more s h =
      right (IsFoldedRedex g) u v at m (eqb-true m 2 e) (more v s.1 (some_map (tree.app f) o h))
  argument false m e f y z (app u v) at o more s h = absurd (cc)

  function_part : (a : Tree) (m : ℕ) → m ≡ 1 → (x z : Tree) (w : Named) (at : List ℕ) (o : Option Tree) → Found x o at →
      Shows g.names (tree.app x z) w → IsSome (option_map (λ t. tree.app t a) o) → Leads (IsFoldedRedex g) w (m ∷ at)
  function_part a m e x z (var y) at o more s h = absurd s
  function_part a m e x z (lam y u) at o more s h = absurd s
  function_part a m e x z (app u v) at o more s h =
      left (IsFoldedRedex g) u v at m e (more u s.0 (some_map (λ (t : Tree). tree.app t a) o h))

  -- each part of an application, where x and y are the two folded round what is at the address, and w and z without
  parts : (b : Bool) (m : ℕ) → (m == 1) ≡ b → (f a x z y v : Tree) (w : Named) (at : List ℕ) (o q : Option Tree) →
      Found x o at → Found v q at → Shows g.names (if b then tree.app x z else tree.app y v) w →
      IsSome (if b then option_map (λ t. tree.app t a) o else if m == 2 then option_map (tree.app f) q else None) →
      Leads (IsFoldedRedex g) w (m ∷ at)
  parts true m e f a x z y v w at o q more rest s h = function_part a m (eqb-true m 1 e) x z w at o more s h
  parts false m e f a x z y v w at o q more rest s h = argument (m == 2) m refl f y v w at q rest s h

  worded_if : (b : Bool) (x z y v : Tree) (r : Binders) → worded g (if b then tree.app x z else tree.app y v) r
      ≡ (if b then tree.app (worded g x (names_in_function r)) (worded g z (names_in_argument r))
      else tree.app (worded g y (names_in_function r)) (worded g v (names_in_argument r)))
  worded_if true x z y v r = refl
  worded_if false x z y v r = refl

  leads : (t : Tree) (at : List ℕ) (r : Binders) (w : Named) →
      Shows g.names (worded g (folded_round g.first vs at t) r) w → IsSome (contracted t at) →
      Leads (IsFoldedRedex g) w at
  leads (tree.var k) at r w s h = absurd (cc)
  leads (tree.free k) at r w s h = absurd (cc)
  leads (tree.lam t) [] r w s h = absurd (cc)
  leads (tree.lam t) (m ∷ at) r w s h =
      body (m == 0) m refl (worded g (folded_round g.first vs at t) (names_in_body r)) w at (contracted t at)
      (leads t at (names_in_body r)) s h
  leads (tree.app f a) [] r w s h = root f a r w s h
  leads (tree.app f a) (m ∷ at) r w s h =
      let x = folded_round g.first vs at f in
      let z = all_folded g.first vs a in
      let y = all_folded g.first vs f in
      let v = folded_round g.first vs at a in
      let p = names_in_function r in
      let q = names_in_argument r in
      parts (m == 1) m refl f a (worded g x p) (worded g z q) (worded g y p) (worded g v q) w at (contracted f at)
      (contracted a at) (leads f at p) (leads a at q)
      (subst (λ (u : Tree). Shows g.names u w) (worded_if (m == 1) x z y v r) s) h

-- ---- where it isn't folded

abbrev without_lets : List (List ℕ) → Glossary
without_lets names = record { names = names; first = 0; rows = []; lets = [] }

is_redex : (names : List (List ℕ)) (u f a : Named) → u ≡ app f a → StandsForAbstraction (without_lets names) f → IsRedex u
is_redex names u (var x) a e h = let none = h.2 in absurd (cc)
is_redex names u (lam x t) a e h = (x, t, a, e)
is_redex names u (app f c) a e h = absurd h

plain : (names : List (List ℕ)) (t : Tree) (at : List ℕ) → IsSome (contracted t at) → (u : Named) → Shows names t u →
    Leads IsRedex u at
plain names t at h u s =
    let g = without_lets names in
    let x = folded_round 0 [] at t in
    let l = leads g t at binders.leaf u (subst (λ (x : Tree). Shows names x u)
    (sym (none_worded g refl x binders.leaf ∙ no_value_no_change 0 (Some at) t)) s) h in
    (l.0, is_redex names (part u at) l.1.0 l.1.1 l.1.2 l.1.3)

-- ---- what is marked

marked : (R : Named → Type 0) (named : Bool) (names : List (List ℕ)) (t : Tree) (s : Binders) (at : List ℕ) →
    (named ≡ true → Fits t s) → ((u : Named) → Shows names t u → Leads R u at) →
    MarksRedex R named names t s at (shown_term named names t s)
marked R true names t s at fits each =
    let l = each (own.named names [] t s) (named_shows names [] t s (fits refl)) in
    record { line = refl; redex = l.1; marked = mark_is_under (own.named names [] t s) at l.0 }
marked R false names t s at fits each =
    let l = each (lettered names 0 t) (lettered_shows names 0 t) in
    record {
      line = ap (λ (x : List ℕ). x ++ codes "\n") (sym (lettered_text names false 0 t));
      redex = l.1;
      marked = mark_is_under (lettered names 0 t) at l.0;
    }

pub redex_is_marked : RedexIsMarked
redex_is_marked order named names t s at fits e =
    marked IsRedex named names t s at fits (plain names t at (next_is_redex order t at e))

abbrev FoldedMarks : Shown → Glossary → Binders → List ℕ → Tree → Type 0
FoldedMarks how g s at x =
    MarksRedex (IsFoldedRedex g) how.named g.names x (pruned x s) at (shown_term how.named g.names x (pruned x s))

pub folded_redex_is_marked : FoldedRedexIsMarked
folded_redex_is_marked how g t s at fits e =
    let vs = values_of_lets g.rows in
    let y = folded_at g.first vs (Some at) t in
    let x = worded g y s in
    subst (λ (o : Option (List ℕ)). FoldedMarks how g s at (worded g (folded_at g.first vs o t) s)) (sym e)
    (marked (IsFoldedRedex g) how.named g.names x (pruned x s) at
    (λ is. worded_fits g y s s (folded_fits g.first vs (Some at) t s (fits is)))
    (λ u shows. leads g t at s u shows (next_is_redex how.order t at e)))

-- ---- it is the one that comes next

-- what stands at an address of a folded tree stands for the subterm there
record StandsFor (n : ℕ) (vs : List Tree) (folded : Option Tree) (t : Option Tree) : Type 0 where
  part : Tree
  whole : Tree
  body : Tree
  argument : Tree
  folded_is : folded ≡ Some part
  whole_is : t ≡ Some whole
  unfolds : unfolded n vs part ≡ whole
  redex : whole ≡ tree.app (tree.lam body) argument

module _ (n : ℕ) (vs : List Tree) where
  stands_root : (f a : Tree) → is_named_below n (tree.app f a) ≡ true → IsSome (applied f a) →
      StandsFor n vs (Some (folded_round n vs [] (tree.app f a))) (Some (tree.app f a))
  stands_root (tree.var k) a h some = absurd (cc)
  stands_root (tree.free k) a h some = absurd (cc)
  stands_root (tree.lam b) a h some = record {
    part = folded_round n vs [] (tree.app (tree.lam b) a);
    whole = tree.app (tree.lam b) a;
    body = b;
    argument = a;
    folded_is = refl;
    whole_is = refl;
    unfolds = unfolded_is_term n vs (Some []) (tree.app (tree.lam b) a) h;
    redex = refl;
  }
  stands_root (tree.app f c) a h some = absurd (cc)

  stands_body : (b : Bool) (o p q : Option Tree) → (IsSome o → StandsFor n vs p q) →
      IsSome (if b then option_map tree.lam o else None) →
      StandsFor n vs (if b then p else None) (if b then q else None)
  stands_body true o p q more h = more (some_map tree.lam o h)
  stands_body false o p q more h = absurd (cc)

  -- each part of an application; x and z are the function folded round what is at the address and without, v and y the
  -- argument
  stands_parts : (b : Bool) (m : ℕ) → (m == 1) ≡ b → (at : List ℕ) (f a x z y v : Tree) (o q : Option Tree) →
      (IsSome o → StandsFor n vs (subterm_along x at) (subterm_along f at)) →
      (IsSome q → StandsFor n vs (subterm_along v at) (subterm_along a at)) →
      IsSome (if b then option_map (λ t. tree.app t a) o else if m == 2 then option_map (tree.app f) q else None) →
      StandsFor n vs (subterm_along (if b then tree.app x z else tree.app y v) (m ∷ at))
      (subterm_along (tree.app f a) (m ∷ at))
  stands_parts true m e at f a x z y v o q more rest h =
      subst (λ (c : Bool). StandsFor n vs
      (if c then subterm_along x at else if m == 2 then subterm_along z at else None)
      (if c then subterm_along f at else if m == 2 then subterm_along a at else None)) (sym e)
      (more (some_map (λ (t : Tree). tree.app t a) o h))
  stands_parts false m e at f a x z y v o q more rest h =
      subst (λ (c : Bool). StandsFor n vs
      (if c then subterm_along y at else if m == 2 then subterm_along v at else None)
      (if c then subterm_along f at else if m == 2 then subterm_along a at else None)) (sym e)
      (go (m == 2) h)
    where
      go : (c : Bool) → IsSome (if c then option_map (tree.app f) q else None) →
          StandsFor n vs (if c then subterm_along v at else None) (if c then subterm_along a at else None)
      go true i = rest (some_map (tree.app f) q i)
      go false i = absurd (cc)

  stands : (t : Tree) (at : List ℕ) → is_named_below n t ≡ true → IsSome (contracted t at) →
      StandsFor n vs (subterm_along (folded_round n vs at t) at) (subterm_along t at)
  stands (tree.var k) at h some = absurd (cc)
  stands (tree.free k) at h some = absurd (cc)
  stands (tree.lam t) [] h some = absurd (cc)
  stands (tree.lam t) (m ∷ at) h some =
      stands_body (m == 0) (contracted t at) (subterm_along (folded_round n vs at t) at) (subterm_along t at)
      (stands t at h) some
  stands (tree.app f a) [] h some = stands_root f a h some
  stands (tree.app f a) (m ∷ at) h some =
      let p = and_parts (is_named_below n f) (is_named_below n a) h in
      stands_parts (m == 1) m refl at f a (folded_round n vs at f) (all_folded n vs a) (all_folded n vs f)
      (folded_round n vs at a) (contracted f at) (contracted a at) (stands f at p.0) (stands a at p.1) some

pub unfolds_to_next : UnfoldsToNext
unfolds_to_next how g t s at h e =
    let vs = values_of_lets g.rows in
    let r = stands g.first vs t at h (next_is_redex how.order t at e) in
    let p = worded_part g (folded_at g.first vs (Some at) t) r.part s at r.folded_is in
    record {
      part = worded g r.part p.0;
      body = r.body;
      argument = r.argument;
      shown = ap (λ (o : Option (List ℕ)). subterm_along (worded g (folded_at g.first vs o t) s) at) e ∙ p.1;
      redex = r.whole_is ∙ ap (λ (u : Tree). Some u) r.redex;
      unfolds = unfolded_worded g r.part p.0 ∙ r.unfolds ∙ r.redex;
    }

-- ---- an address leads to a part of what is shown where it leads to a subterm

led : (names : List (List ℕ)) (t : Tree) (u : Named) (at : List ℕ) → Shows names t u →
    leads_to_part u at ≡ is_some (subterm_along t at)
led names (tree.var k) (var x) [] h = refl
led names (tree.var k) (var x) (m ∷ at) h = refl
led names (tree.var k) (lam x u) at h = absurd h
led names (tree.var k) (app g b) at h = absurd h
led names (tree.free k) (var x) [] h = refl
led names (tree.free k) (var x) (m ∷ at) h = refl
led names (tree.free k) (lam x u) at h = absurd h
led names (tree.free k) (app g b) at h = absurd h
led names (tree.lam t) (var x) at h = absurd h
led names (tree.lam t) (lam x u) [] h = refl
led names (tree.lam t) (lam x u) (m ∷ at) h = go (m == 0) (led names t u at h)
  where
    go : (b : Bool) → leads_to_part u at ≡ is_some (subterm_along t at) →
        (if b then leads_to_part u at else false) ≡ is_some (if b then subterm_along t at else None)
    go true i = i
    go false i = refl
led names (tree.lam t) (app g b) at h = absurd h
led names (tree.app f a) (var x) at h = absurd h
led names (tree.app f a) (lam x u) at h = absurd h
led names (tree.app f a) (app g b) [] h = refl
led names (tree.app f a) (app g b) (m ∷ at) h = go (m == 1) (m == 2) (led names f g at h.0) (led names a b at h.1)
  where
    go : (c d : Bool) → leads_to_part g at ≡ is_some (subterm_along f at) →
        leads_to_part b at ≡ is_some (subterm_along a at) →
        (if c then leads_to_part g at else if d then leads_to_part b at else false)
        ≡ is_some (if c then subterm_along f at else if d then subterm_along a at else None)
    go true d i j = i
    go false true i j = j
    go false false i j = refl

pub parts_are_there : PartsAreThere
parts_are_there true names t s at fits =
    led names t (own.named names [] t s) at (named_shows names [] t s (fits refl))
parts_are_there false names t s at fits = led names t (lettered names 0 t) at (lettered_shows names 0 t)

-- ---- the binders in a subterm have its shape

along_root : (s : Binders) → binders_along s [] ≡ s
along_root binders.leaf = refl
along_root (binders.lam x s) = refl
along_root (binders.app r s) = refl

root_fits : (t v : Tree) (s : Binders) → Fits t s → Some t ≡ Some v → Fits v (binders_along s [])
root_fits t v s fits h = subst (λ (r : Binders). Fits v r) (sym (along_root s))
    (subst (λ (w : Tree). Fits w s) (same_Some t v h) fits)

pub binders_along_fit : BindersAlongFit
binders_along_fit (tree.var k) v s [] fits h = root_fits (tree.var k) v s fits h
binders_along_fit (tree.var k) v s (m ∷ at) fits h = absurd (cc)
binders_along_fit (tree.free k) v s [] fits h = root_fits (tree.free k) v s fits h
binders_along_fit (tree.free k) v s (m ∷ at) fits h = absurd (cc)
binders_along_fit (tree.lam t) v s [] fits h = root_fits (tree.lam t) v s fits h
binders_along_fit (tree.lam t) v binders.leaf (m ∷ at) fits h = absurd fits
binders_along_fit (tree.lam t) v (binders.lam x s) (m ∷ at) fits h = go (m == 0) h (binders_along_fit t v s at fits)
  where
    go : (b : Bool) → (if b then subterm_along t at else None) ≡ Some v →
        (subterm_along t at ≡ Some v → Fits v (binders_along s at)) → Fits v (binders_along s at)
    go true i more = more i
    go false i more = absurd (cc)
binders_along_fit (tree.lam t) v (binders.app r s) (m ∷ at) fits h = absurd fits
binders_along_fit (tree.app f a) v s [] fits h = root_fits (tree.app f a) v s fits h
binders_along_fit (tree.app f a) v binders.leaf (m ∷ at) fits h = absurd fits
binders_along_fit (tree.app f a) v (binders.lam x s) (m ∷ at) fits h = absurd fits
binders_along_fit (tree.app f a) v (binders.app r s) (m ∷ at) fits h =
    go (m == 1) (m == 2) h (binders_along_fit f v r at fits.0) (binders_along_fit a v s at fits.1)
  where
    go : (c d : Bool) → (if c then subterm_along f at else if d then subterm_along a at else None) ≡ Some v →
        (subterm_along f at ≡ Some v → Fits v (binders_along r at)) →
        (subterm_along a at ≡ Some v → Fits v (binders_along s at)) →
        Fits v (if c then binders_along r at else binders_along s at)
    go true d i more rest = more i
    go false true i more rest = rest i
    go false false i more rest = absurd (cc)

-- ---- the part is that subterm with names

abbrev Lettered : List (List ℕ) → ℕ → Tree → Named → List ℕ → Type 0
Lettered names n v u at = part u at ≡ lettered names (length (binders_round u at) + n) v

root_lettered : (names : List (List ℕ)) (n : ℕ) (t v : Tree) → Some t ≡ Some v → lettered names n t ≡ lettered names (0 + n) v
root_lettered names n t v h = ap (lettered names n) (same_Some t v h) ∙ ap (λ (k : ℕ). lettered names k v) (omega arith)

lettered_part : (names : List (List ℕ)) (t v : Tree) (n : ℕ) (at : List ℕ) → subterm_along t at ≡ Some v →
    Lettered names n v (lettered names n t) at
lettered_part names (tree.var k) v n [] h = root_lettered names n (tree.var k) v h
lettered_part names (tree.var k) v n (m ∷ at) h = absurd (cc)
lettered_part names (tree.free k) v n [] h = root_lettered names n (tree.free k) v h
lettered_part names (tree.free k) v n (m ∷ at) h = absurd (cc)
lettered_part names (tree.lam t) v n [] h = root_lettered names n (tree.lam t) v h
lettered_part names (tree.lam t) v n (m ∷ at) h = go (m == 0) h (lettered_part names t v (n + 1) at)
  where
    u : Named
    u = lettered names (n + 1) t

    x : List ℕ
    x = binder_name names n

    l : length (binders_round u at ++ x ∷ []) ≡ length (binders_round u at) + 1
    l = length_push (binders_round u at) x

    go : (b : Bool) → (if b then subterm_along t at else None) ≡ Some v →
        (subterm_along t at ≡ Some v → Lettered names (n + 1) v u at) → Lettered names n v (lam x u) (m ∷ at)
    go true i more = more i ∙ ap (λ (k : ℕ). lettered names k v) (omega (arith, l))
    go false i more = absurd (cc)
lettered_part names (tree.app f a) v n [] h = root_lettered names n (tree.app f a) v h
lettered_part names (tree.app f a) v n (m ∷ at) h =
    go (m == 1) (m == 2) h (lettered_part names f v n at) (lettered_part names a v n at)
  where
    go : (b c : Bool) → (if b then subterm_along f at else if c then subterm_along a at else None) ≡ Some v →
        (subterm_along f at ≡ Some v → Lettered names n v (lettered names n f) at) →
        (subterm_along a at ≡ Some v → Lettered names n v (lettered names n a) at) →
        (if b then part (lettered names n f) at else part (lettered names n a) at) ≡ lettered names
        (length (if b then binders_round (lettered names n f) at else binders_round (lettered names n a) at) + n) v
    go true c i more rest = more i
    go false true i more rest = rest i
    go false false i more rest = absurd (cc)

abbrev IsNamedPart : List (List ℕ) → List (List ℕ) → Tree → Binders → Named → List ℕ → Type 0
IsNamedPart names round v s u at = part u at ≡ own.named names (binders_round u at ++ round) v (binders_along s at)

named_part : (names : List (List ℕ)) (t v : Tree) (round : List (List ℕ)) (s : Binders) (at : List ℕ) → Fits t s →
    subterm_along t at ≡ Some v → IsNamedPart names round v s (own.named names round t s) at
named_part names (tree.var k) v round binders.leaf [] fits h =
    ap (λ (w : Tree). own.named names round w binders.leaf) (same_Some (tree.var k) v h)
named_part names (tree.var k) v round binders.leaf (m ∷ at) fits h = absurd (cc)
named_part names (tree.var k) v round (binders.lam x s) at fits h = absurd fits
named_part names (tree.var k) v round (binders.app r s) at fits h = absurd fits
named_part names (tree.free k) v round binders.leaf [] fits h =
    ap (λ (w : Tree). own.named names round w binders.leaf) (same_Some (tree.free k) v h)
named_part names (tree.free k) v round binders.leaf (m ∷ at) fits h = absurd (cc)
named_part names (tree.free k) v round (binders.lam x s) at fits h = absurd fits
named_part names (tree.free k) v round (binders.app r s) at fits h = absurd fits
named_part names (tree.lam t) v round binders.leaf at fits h = absurd fits
named_part names (tree.lam t) v round (binders.lam x s) [] fits h =
    ap (λ (w : Tree). own.named names round w (binders.lam x s)) (same_Some (tree.lam t) v h)
named_part names (tree.lam t) v round (binders.lam x s) (m ∷ at) fits h =
    go (m == 0) h (named_part names t v (own.primed (own.used 1 names round t) x ∷ round) s at fits)
  where
    y : List ℕ
    y = own.primed (own.used 1 names round t) x

    u : Named
    u = own.named names (y ∷ round) t s

    go : (b : Bool) → (if b then subterm_along t at else None) ≡ Some v →
        (subterm_along t at ≡ Some v → IsNamedPart names (y ∷ round) v s u at) →
        part u at ≡ own.named names ((binders_round u at ++ y ∷ []) ++ round) v (binders_along s at)
    go true i more = more i ∙ ap (λ (r : List (List ℕ)). own.named names r v (binders_along s at))
        (sym (append_assoc (binders_round u at) (y ∷ []) round))
    go false i more = absurd (cc)
named_part names (tree.lam t) v round (binders.app r s) at fits h = absurd fits
named_part names (tree.app f a) v round binders.leaf at fits h = absurd fits
named_part names (tree.app f a) v round (binders.lam x s) at fits h = absurd fits
named_part names (tree.app f a) v round (binders.app r s) [] fits h =
    ap (λ (w : Tree). own.named names round w (binders.app r s)) (same_Some (tree.app f a) v h)
named_part names (tree.app f a) v round (binders.app r s) (m ∷ at) fits h =
    go (m == 1) (m == 2) h (named_part names f v round r at fits.0) (named_part names a v round s at fits.1)
  where
    g : Named
    g = own.named names round f r

    b : Named
    b = own.named names round a s

    go : (c d : Bool) → (if c then subterm_along f at else if d then subterm_along a at else None) ≡ Some v →
        (subterm_along f at ≡ Some v → IsNamedPart names round v r g at) →
        (subterm_along a at ≡ Some v → IsNamedPart names round v s b at) →
        (if c then part g at else part b at)
        ≡ own.named names ((if c then binders_round g at else binders_round b at) ++ round) v
        (if c then binders_along r at else binders_along s at)
    go true d i more rest = more i
    go false true i more rest = rest i
    go false false i more rest = absurd (cc)

pub named_part_is_subterm : NamedPartIsSubterm
named_part_is_subterm names t v s at fits h =
    let u = own.named names [] t s in
    named_part names t v [] s at fits h
    ∙ ap (λ (r : List (List ℕ)). own.named names r v (binders_along s at)) (append-nil (binders_round u at))

pub lettered_part_is_subterm : LetteredPartIsSubterm
lettered_part_is_subterm names t v at h =
    let u = lettered names 0 t in
    lettered_part names t v 0 at h ∙ ap (λ (k : ℕ). lettered names k v) (omega arith)

-- ---- it is read as that subterm

read_part : (names round : List (List ℕ)) (u : Named) (v : Tree) (at : List ℕ) →
    subterm_along (numbered names round u) at ≡ Some v → numbered names (binders_round u at ++ round) (part u at) ≡ v
read_part names round (var x) v [] h = root_is (numbered names round (var x)) v h
read_part names round (var x) v (m ∷ at) h =
    let none = leaf (position_of x round) (position_of x names) in absurd (cc)
  where
    leaf : (o p : Option ℕ) → subterm_along (var_at o p) (m ∷ at) ≡ None
    leaf (Some k) p = refl
    leaf None (Some k) = refl
    leaf None None = refl
read_part names round (lam x t) v [] h = same_Some (numbered names round (lam x t)) v h
read_part names round (lam x t) v (m ∷ at) h = go (m == 0) h (read_part names (x ∷ round) t v at)
  where
    go : (b : Bool) → (if b then subterm_along (numbered names (x ∷ round) t) at else None) ≡ Some v →
        (subterm_along (numbered names (x ∷ round) t) at ≡ Some v →
        numbered names (binders_round t at ++ x ∷ round) (part t at) ≡ v) →
        numbered names ((binders_round t at ++ x ∷ []) ++ round) (part t at) ≡ v
    go true i more =
        ap (λ (r : List (List ℕ)). numbered names r (part t at)) (append_assoc (binders_round t at) (x ∷ []) round) ∙ more i
    go false i more = absurd (cc)
read_part names round (app f a) v [] h = same_Some (numbered names round (app f a)) v h
read_part names round (app f a) v (m ∷ at) h =
    go (m == 1) (m == 2) h (read_part names round f v at) (read_part names round a v at)
  where
    go : (b c : Bool) → (if b then subterm_along (numbered names round f) at
        else if c then subterm_along (numbered names round a) at else None) ≡ Some v →
        (subterm_along (numbered names round f) at ≡ Some v → numbered names (binders_round f at ++ round) (part f at) ≡ v) →
        (subterm_along (numbered names round a) at ≡ Some v → numbered names (binders_round a at ++ round) (part a at) ≡ v) →
        numbered names ((if b then binders_round f at else binders_round a at) ++ round)
        (if b then part f at else part a at) ≡ v
    go true c i more rest = more i
    go false true i more rest = rest i
    go false false i more rest = absurd (cc)

pub part_is_read : PartIsRead
part_is_read names u t v at reads h =
    ap (λ (r : List (List ℕ)). numbered names r (part u at)) (sym (append-nil (binders_round u at)))
    ∙ read_part names [] u v at (ap (λ (x : Tree). subterm_along x at) reads ∙ h)
