-- The net of a term has no loop. A walk that goes round a loop for ever is an endless sequence of hops over the term. A
-- round begins where the count of applications and abstractions crossed upwards, less those crossed downwards, is least.
-- Each mark that is popped was therefore pushed in the same round, and its age is at most the length of the round. No
-- such sequence is endless (Walked).
-- Used in NoRing.
use Rattle.std.proofs.Common.{◌≡◌, ℕ, zero, suc, ◌+◌, ◌-◌, ◌<◌, ◌≤◌, Bool, true, false, List, [], ◌∷◌, length, inl, inr, refl, sym}
use Rattle.std.proofs.Common.{◌∙◌, subst, arith}
use Rattle.ol_context.specs.Contexts.{Context, levels, up}
use Rattle.ol_context.specs.Paths.{Crosses, inward, outward}
use Rattle.ol_law_meaning.proofs.States.{before_all}
use Rattle.ol_law_meaning.proofs.Parts.{occurs_inside}
use Rattle.ol_law_meaning.proofs.Whole.{has_part}
use Rattle.ol_law_meaning.specs.Spots.{Spot}
use Rattle.ol_law_optimality.specs.Labels.{Labelled}
use Rattle.ol_law_optimality.specs.Routes.{Crossing}
use Rattle.ol_net.specs.Nets.{NamedNet, NamedPort, slot, HasNode, Linked, IsNet}
use Rattle.ol_net.specs.Nets as nets
use Rattle.ol_net.specs.Parts.{arity}
use Rattle.ol_net.specs.declared.parts.Kind.{Kind}
use Rattle.ol_term.specs.Trees.{Tree}
use Rattle.ol_term.specs.declared.translations.Translation.{Translation}
use Rattle.ol_translate.proofs.Whole.{translation_net}
use Rattle.ol_translate.specs.Names.{HasNames}
use Rattle.ol_translate.specs.Translation.{translation_of}
use Rattle.ol_law_completeness.proofs.Bounding.{root_free, wire_free, begins_at}
use Rattle.ol_law_completeness.proofs.Crossings.{Till, Within, comes, crosses, is_up}
use Rattle.ol_law_completeness.proofs.Falling.{Stand}
use Rattle.ol_law_completeness.proofs.First.{unlabelled}
use Rattle.ol_law_completeness.proofs.Hops.{Act, app_push, app_pop, lam_push, lam_pop, aged, Effect, app_pushed, lam_pushed}
use Rattle.ol_law_completeness.proofs.Hops.{app_popped, lam_popped}
use Rattle.ol_law_completeness.proofs.Jumps.{reached_occurs}
use Rattle.ol_law_completeness.proofs.Lines.{Line, stop, rises, falls, Leads, climbs, marks, Loop}
use Rattle.ol_law_completeness.proofs.Nodes.{From, stands, last}
use Rattle.ol_law_completeness.proofs.Onward.{Landed, landed, Next, jumps, leaves, out, Result, onward}
use Rattle.ol_law_completeness.proofs.Plain.{is_push, hop_of}
use Rattle.ol_law_completeness.proofs.Rounds.{need, Rounds, rounds}
use Rattle.ol_law_completeness.proofs.Walked.{all_short}
use Rattle.ol_law_completeness.proofs.Short.{Fin, fin, Move, move}

-- ---- ages

-- at least a marks are known, and the ages of the first a are at most j
abbrev Young : ℕ → ℕ → List ℕ → Type 0
Young zero j A = Unit {0}
Young (suc a) j [] = ⊥
Young (suc a) j (x ∷ A) = (x ≤ j) × Young a j A

young_aged : (a j : ℕ) (A : List ℕ) → Young a j A → Young a (suc j) (aged 1 A)
young_aged zero j A y = tt
young_aged (suc a) j [] y = absurd y
young_aged (suc a) j (x ∷ A) y = let l = y.0 in (omega (arith, l), young_aged a j A y.1)

record Pushed (K : ℕ) (k : Act) (a j : ℕ) (A : List ℕ) : Type 0 where
  ages : List ℕ
  effect : Effect K k 0 A ages
  young : Young (suc a) (suc j) ages

pushed : (K : ℕ) (k : Act) (a j : ℕ) (A : List ℕ) → is_push k ≡ true → Young a j A → Pushed K k a j A
pushed K app_push a j A e y = record { ages = 0 ∷ aged 1 A; effect = app_pushed refl; young = (omega arith, young_aged a j A y) }
pushed K lam_push a j A e y = record { ages = 1 ∷ aged 1 A; effect = lam_pushed refl; young = (omega arith, young_aged a j A y) }
pushed K app_pop a j A e y = absurd (cc)
pushed K lam_pop a j A e y = absurd (cc)

record Popped (K : ℕ) (k : Act) (a j : ℕ) (A : List ℕ) : Type 0 where
  ages : List ℕ
  effect : Effect K k 0 A ages
  young : Young a (suc j) ages

popped : (K : ℕ) (k : Act) (a j : ℕ) (A : List ℕ) → is_push k ≡ false → suc j ≤ K → Young (suc a) j A → Popped K k a j A
popped K k a j [] e h y = absurd y
popped K app_pop a j (x ∷ A) e h y =
    let l = y.0 in record { ages = aged 1 A; effect = app_popped refl (omega (arith, l, h)) refl; young = young_aged a j A y.1 }
popped K lam_pop a j (x ∷ A) e h y =
    let l = y.0 in record { ages = aged 1 A; effect = lam_popped refl (omega (arith, l, h)) refl; young = young_aged a j A y.1 }
popped K app_push a j (x ∷ A) e h y = absurd (cc)
popped K lam_push a j (x ∷ A) e h y = absurd (cc)

-- after a crossing that leaves by slot s, with m marks, n marks may be popped, if before it a may be popped
abbrev Leaves : ℕ → ℕ → ℕ → ℕ → Type 0
Leaves zero m n a = n ≤ a + m
Leaves (suc s) m n a = m + n ≤ a

leaves_same : (s m n a : ℕ) → m ≡ 0 → Leaves s m n a → n ≤ a
leaves_same zero m n a e h = omega (arith, e, h)
leaves_same (suc s) m n a e h = omega (arith, e, h)

module _ (τ : Translation) (t : Tree) (names : ℕ) (h : HasNames t names) (R : Rounds (translation_of τ t names)) where
  abbrev N : NamedNet ℕ
  N = translation_of τ t names

  net : IsNet (translation_of τ t names)
  net = translation_net τ t names h

  -- ---- along the rounds

  -- The walk has left port p with context c. In its round it has made j hops and has pushed a marks that are still there.
  -- In the rest of the round it pops at most n marks more than it pushes and has.
  record Place (j a n : ℕ) (p : NamedPort ℕ) (c : Context) : Type 0 where
    round : ℕ
    row : List (Crossing ℕ)
    rest : Line N p row R.port
    leads : Leads rest c (R.context (suc round))
    time : j + length row ≤ length R.row
    enough : need rest ≤ a + n

  -- the next crossing, in the same round or in the next one
  record Ahead (j a n : ℕ) (p : NamedPort ℕ) (c : Context) : Type 0 where
    node : ℕ
    by : ℕ
    index : ℕ
    to : ℕ
    kind_is : Kind
    context : Context
    linked : Linked N p (slot node by)
    there : HasNode N node kind_is index
    crossing : Crosses kind_is index by c to context
    spent : ℕ
    young : ℕ
    keeps : (A : List ℕ) → Young a j A → Young young spent A
    round : ℕ
    row : List (Crossing ℕ)
    rest : Line N (slot node to) row R.port
    leads : Leads rest context (R.context (suc round))
    time : suc spent + length row ≤ length R.row
    enough : Leaves to (marks kind_is) (need rest) (young + n)

  closed : {p q : NamedPort ℕ} {w : List (Crossing ℕ)} (r : Line N p w q) → q ≡ R.port → (c d : Context) → Leads r c d → (b : ℕ) →
      need r ≤ b → (r : Line N p w R.port) × Leads r c d × (need r ≤ b)
  closed {p} {w = w} r e c d l b k = subst (λ q. (r : Line N p w q) × Leads r c d × (need r ≤ b)) e (r, l, k)

  by_rise : (j a n round : ℕ) {p q : NamedPort ℕ} {x : ℕ} {s : ℕ} {w : List (Crossing ℕ)} {c : Context} (k : Kind) (i : ℕ)
      (l : Linked N p (slot x (suc s))) (m : HasNode N x k i) (b : s < arity k) (r : Line N (slot x 0) w q) → q ≡ R.port →
      Leads r (up k i s c) (R.context (suc round)) → suc j + length w ≤ length R.row → need r ≤ a + n + marks k → Ahead j a n p c
  by_rise j a n round {x = x} {s = s} {w = w} {c = c} k i l m b r e g t d =
      let z = closed r e (up k i s c) (R.context (suc round)) g (a + n + marks k) d in
      record {
        node = x;
        by = suc s;
        index = i;
        to = 0;
        kind_is = k;
        context = up k i s c;
        linked = l;
        there = m;
        crossing = inward b refl;
        spent = j;
        young = a;
        keeps = λ A y. y;
        round = round;
        row = w;
        rest = z.0;
        leads = z.1;
        time = t;
        enough = z.2;
      }

  by_fall : (j a n round : ℕ) {p q : NamedPort ℕ} {x : ℕ} {s : ℕ} {w : List (Crossing ℕ)} {c : Context} (k : Kind) (i : ℕ)
      (l : Linked N p (slot x 0)) (m : HasNode N x k i) (b : s < arity k) (r : Line N (slot x (suc s)) w q) → q ≡ R.port →
      (d : Context) → up k i s d ≡ c → Leads r d (R.context (suc round)) → suc j + length w ≤ length R.row →
      marks k + need r ≤ a + n → Ahead j a n p c
  by_fall j a n round {x = x} {s = s} {w = w} k i l m b r e d f g t u =
      let z = closed r e d (R.context (suc round)) g (a + n - marks k) (omega (arith, u)) in
      let v = z.2 in
      record {
        node = x;
        by = 0;
        index = i;
        to = suc s;
        kind_is = k;
        context = d;
        linked = l;
        there = m;
        crossing = outward b f;
        spent = j;
        young = a;
        keeps = λ A y. y;
        round = round;
        row = w;
        rest = z.0;
        leads = z.1;
        time = t;
        enough = omega (arith, u, v);
      }

  -- a new round
  new_line : (n round : ℕ) {p q : NamedPort ℕ} {w : List (Crossing ℕ)} {c : Context} (r : Line N p w q) → q ≡ R.port →
      Leads r c (R.context (suc round)) → length w ≤ length R.row → need r ≡ 0 → 1 ≤ climbs w → Ahead 0 0 n p c
  new_line n round stop e g t d s = absurd (omega (arith, s))
  new_line n round (rises k i l m b r) e g t d s =
      by_rise 0 0 n round k i l m b r e g (omega (arith, t)) (omega (arith, d))
  new_line n round (falls k i l m b r) e g t d s =
      by_fall 0 0 n round k i l m b r e g.0 g.1 g.2 (omega (arith, t)) (omega (arith, d))

  new_round : (j a n round : ℕ) {p : NamedPort ℕ} {c : Context} → p ≡ R.port → c ≡ R.context round → Ahead j a n p c
  new_round j a n round {p} {c} e f =
      let z = subst (λ p. Ahead 0 0 n p c) (sym e) (subst (λ c. Ahead 0 0 n R.port c) (sym f)
      (new_line n round R.line refl (R.leads round) (omega arith) R.never R.some)) in
      record {
        node = z.node;
        by = z.by;
        index = z.index;
        to = z.to;
        kind_is = z.kind_is;
        context = z.context;
        linked = z.linked;
        there = z.there;
        crossing = z.crossing;
        spent = z.spent;
        young = z.young;
        keeps = λ A y. z.keeps A tt;
        round = z.round;
        row = z.row;
        rest = z.rest;
        leads = z.leads;
        time = z.time;
        enough = z.enough;
      }

  ahead_of : (j a n round : ℕ) {p q : NamedPort ℕ} {w : List (Crossing ℕ)} {c : Context} (r : Line N p w q) → q ≡ R.port →
      Leads r c (R.context (suc round)) → j + length w ≤ length R.row → need r ≤ a + n → Ahead j a n p c
  ahead_of j a n round stop e g t d = new_round j a n (suc round) e g
  ahead_of j a n round (rises k i l m b r) e g t d =
      by_rise j a n round k i l m b r e g (omega (arith, t)) (omega (arith, d))
  ahead_of j a n round (falls k i l m b r) e g t d =
      by_fall j a n round k i l m b r e g.0 g.1 g.2 (omega (arith, t)) d

  ahead : (j a n : ℕ) {p : NamedPort ℕ} {c : Context} → Place j a n p c → Ahead j a n p c
  ahead j a n P = ahead_of j a n P.round P.rest refl P.leads P.time P.enough

  -- the place after it
  place_after : {j a n : ℕ} {p : NamedPort ℕ} {c : Context} (O : Ahead j a n p c) (i b m : ℕ) → i ≤ suc O.spent →
      need O.rest ≤ b + m → Place i b m (slot O.node O.to) O.context
  place_after O i b m g d =
      let t = O.time in
      record { round = O.round; row = O.row; rest = O.rest; leads = O.leads; time = omega (arith, t, g); enough = d }

  -- ---- through nodes of sharing

  record Followed (Q : NamedPort ℕ → Context → Type 0) (j a n : ℕ) : Type 0 where
    port : NamedPort ℕ
    context : Context
    there : Q port context
    spent : ℕ
    young : ℕ
    keeps : (A : List ℕ) → Young a j A → Young young spent A
    place : Place spent young n port context

  follow : {Q : NamedPort ℕ → Context → Type 0} {m : ℕ} {p : NamedPort ℕ} {c : Context} (j a n : ℕ) → Till N Q m p c →
      Place j a n p c → Followed Q j a n
  follow j a n (comes {p = p} {c = c} q) P = record {
    port = p;
    context = c;
    there = q;
    spent = j;
    young = a;
    keeps = λ A y. y;
    place = P;
  }
  follow j a n (crosses l g f) P =
      let O = ahead j a n P in
      let e = leaves_same O.to (marks O.kind_is) (need O.rest) (O.young + n)
      (g O.node O.by O.index O.kind_is O.linked O.there) O.enough in
      let F = follow O.spent O.young n
      (f O.node O.by O.index O.to O.kind_is O.context O.linked O.there O.crossing)
      (place_after O O.spent O.young n (omega arith) e) in
      record {
        port = F.port;
        context = F.context;
        there = F.there;
        spent = F.spent;
        young = F.young;
        keeps = λ A y. F.keeps A (O.keeps A y);
        place = F.place;
      }

  -- through any nodes
  record Found (Q : NamedPort ℕ → Context → Type 0) : Type 0 where
    port : NamedPort ℕ
    context : Context
    there : Q port context
    left : ℕ
    place : Place 0 0 left port context

  find : {Q : NamedPort ℕ → Context → Type 0} {m : ℕ} {p : NamedPort ℕ} {c : Context} (n : ℕ) → Within N Q m p c →
      Place 0 0 n p c → Found Q
  find n (comes {p = p} {c = c} q) P = record { port = p; context = c; there = q; left = n; place = P }
  find n (crosses l g f) P =
      let O = ahead 0 0 n P in
      find (need O.rest) (f O.node O.by O.index O.to O.kind_is O.context O.linked O.there O.crossing)
      (place_after O 0 0 (need O.rest) (omega arith) (omega arith))

  not_free : {j a n : ℕ} {p : NamedPort ℕ} {c : Context} → Place j a n p c → (q : ℕ) → Linked N p (nets.free q) → ⊥
  not_free {j} {a} {n} {p} P q l =
      let O = ahead j a n P in
      let e : nets.free q ≡ slot O.node O.by = net.one_link p (nets.free q) (slot O.node O.by) l O.linked in
      absurd (cc)

  -- ---- from stand to stand

  abbrev K : ℕ
  K = suc (length R.row)

  abbrev U : Labelled
  U = unlabelled t

  abbrev StandsAt : Spot → Bool → NamedPort ℕ → Context → Type 0
  StandsAt s e p c = Stand N τ s t e 0 0 0 (λ c. c) p c

  abbrev LandedAt : Bool → Spot → Bool → NamedPort ℕ → Context → Type 0
  LandedAt e s = Landed N τ t e s 0 0 0 (λ c. c)

  -- no walk of this kind starts from a stand without known marks
  abbrev Stuck : ℕ → Type 0
  Stuck n = (j a : ℕ) → Young a j [] → (e : Bool) (s : Spot) (p : NamedPort ℕ) (c : Context) → StandsAt s e p c → Place j a n p c → ⊥

  -- at most n pops of marks that aren't known are left; at each of them the walk starts again without known marks
  module _ (n : ℕ) (fewer : (m : ℕ) → n ≡ suc m → Stuck m) where
    abbrev Ends : Bool → Spot → List ℕ → Type 0
    Ends e s A = (j a : ℕ) → Young a j A → (p : NamedPort ℕ) (c : Context) → StandsAt s e p c → Place j a n p c → ⊥

    abbrev Nexts : Bool → Spot → List ℕ → Type 0
    Nexts e s A = (e' : Bool) (z : Spot) (B : List ℕ) → Move τ K U e s A e' z B → Ends e' z B

    push_on : {e : Bool} {s : Spot} {A : List ℕ} → Nexts e s A → (j a : ℕ) → Young a j A →
        (F : Followed (LandedAt e s true) (suc j) (suc a) n) → LandedAt e s true F.port F.context → ⊥
    push_on {e} {s} {A} f j a y F (landed {e' = e'} {z = z} jump q st) =
        let H = hop_of jump in
        let B = pushed K H.0 a j A (H.2 ∙ q) y in
        f e' z B.ages (move H.1 B.effect) F.spent F.young (F.keeps B.ages B.young) F.port F.context st F.place

    pop_on : {e : Bool} {s : Spot} {A : List ℕ} → Nexts e s A → (j a : ℕ) → Young (suc a) j A → suc j ≤ K →
        (F : Followed (LandedAt e s false) (suc j) a n) → LandedAt e s false F.port F.context → ⊥
    pop_on {e} {s} {A} f j a y g F (landed {e' = e'} {z = z} jump q st) =
        let H = hop_of jump in
        let B = popped K H.0 a j A (H.2 ∙ q) g y in
        f e' z B.ages (move H.1 B.effect) F.spent F.young (F.keeps B.ages B.young) F.port F.context st F.place

    -- the popped mark isn't known
    restart : {e : Bool} {s : Spot} (m j : ℕ) → n ≡ suc m → (F : Followed (LandedAt e s false) j 0 m) →
        LandedAt e s false F.port F.context → ⊥
    restart m j q F (landed {e' = e'} {z = z} jump g st) =
        fewer m q F.spent F.young (F.keeps [] tt) e' z F.port F.context st F.place

    fall_on : {e : Bool} {s : Spot} {A : List ℕ} → Nexts e s A → {m : ℕ} (j a : ℕ) → Young a j A → {q : NamedPort ℕ} {x : Context} →
        Till N (LandedAt e s false) m q x → suc j ≤ K → (k : ℕ) → suc k ≤ a + n → ((b l : ℕ) → k ≤ b + l → Place (suc j) b l q x) → ⊥
    fall_on f j (suc a) y T g k d P =
        let F = follow (suc j) a n T (P a n (omega (arith, d))) in pop_on f j a y g F F.there
    fall_on {e} {s} f j zero y T g k d P = by n refl
      where
        by : (l : ℕ) → n ≡ l → ⊥
        by zero q = omega (arith, d, q)
        by (suc l) q = let F = follow (suc j) 0 l T (P 0 l (omega (arith, d, q))) in restart {e = e} {s = s} l (suc j) q F F.there

    mark_on : {e : Bool} {s : Spot} {A : List ℕ} → Nexts e s A → {m j a : ℕ} {p : NamedPort ℕ} {c : Context}
        (O : Ahead j a n p c) → Young O.young O.spent A → marks O.kind_is ≡ 1 → (r : ℕ) →
        Till N (LandedAt e s (is_up r)) m (slot O.node O.to) O.context →
        Leaves r (marks O.kind_is) (need O.rest) (O.young + n) → ⊥
    mark_on f O y one zero T d =
        let F = follow (suc O.spent) (suc O.young) n T
        (place_after O (suc O.spent) (suc O.young) n (omega arith) (omega (arith, d, one))) in
        push_on f O.spent O.young y F F.there
    mark_on f O y one (suc r) T d =
        let g = O.time in
        fall_on f O.spent O.young y T (omega (arith, g)) (need O.rest) (omega (arith, d, one))
        (λ b l k. place_after O (suc O.spent) b l (omega arith) k)

    next_on : {e : Bool} {s : Spot} {A : List ℕ} → Nexts e s A → {j a : ℕ} (F : Followed (Next N τ t e s 0 0 0 (λ c. c)) j a n) →
        Young F.young F.spent A → Next N τ t e s 0 0 0 (λ c. c) F.port F.context → ⊥
    next_on {A = A} f F y (jumps M) =
        let O = ahead F.spent F.young n F.place in
        mark_on f O (O.keeps A y) (M.one O.node O.by O.index O.kind_is O.linked O.there) O.to
        (M.goes O.node O.by O.index O.to O.kind_is O.context O.linked O.there O.crossing) O.enough
    next_on f F y (leaves {y = z} {w = w} g q r e' ep ex) =
        let l = wire_free τ t names h z w (occurs_inside t z 0 h.bound (reached_occurs r)) e' ep in not_free F.place l.0 l.1

    result_on : {e : Bool} {s : Spot} {A : List ℕ} → Nexts e s A → (j a : ℕ) → Young a j A → {p : NamedPort ℕ} {c : Context} →
        Place j a n p c → StandsAt s e p c → Result τ net t e s 0 0 0 (λ c. c) p c → ⊥
    result_on f j a y P st (inl out) = not_free P 0 (root_free τ t names h st.0)
    result_on {A = A} f j a y P st (inr T) = let F = follow j a n T P in next_on f F (F.keeps A y) F.there

    walks_on : {e : Bool} {s : Spot} {A : List ℕ} → Fin τ K U e s A → Ends e s A
    walks_on (fin {d = e} {s = s} f) j a y p c st P =
        result_on (λ e z B m. walks_on (f e z B m)) j a y P st
        (onward τ net t 0 0 0 (λ c. c) before_all h.bound (has_part τ t names h) s e p c st)

  stuck : (n : ℕ) → Stuck n
  stuck zero j a y e s p c st P =
      walks_on zero (λ m q. absurd (omega (arith, q))) (all_short τ K U e s) j a y p c st P
  stuck (suc n) j a y e s p c st P =
      walks_on (suc n) (λ m q. (let g : n ≡ m = omega (arith, q) in subst Stuck g (stuck n))) (all_short τ K U e s) j a y p c st P

  -- ---- the first stand

  record Rise : Type 0 where
    node : ℕ
    kind_is : Kind
    index : ℕ
    there : HasNode N node kind_is index
    context : Context
    left : ℕ
    place : Place 0 0 left (slot node 0) context

  first_rise : {p q : NamedPort ℕ} {w : List (Crossing ℕ)} (c : Context) (r : Line N p w q) → q ≡ R.port →
      Leads r c (R.context 1) → length w ≤ length R.row → 1 ≤ climbs w → Rise
  first_rise c stop e g t d = absurd (omega (arith, d))
  first_rise c (rises {x = x} {s = s} {w = w} k i l m b r) e g t d =
      let z = closed r e (up k i s c) (R.context 1) g (need r) (omega arith) in
      let v = z.2 in
      record {
        node = x;
        kind_is = k;
        index = i;
        there = m;
        context = up k i s c;
        left = need r;
        place = record { round = 0; row = w; rest = z.0; leads = z.1; time = omega (arith, t); enough = omega (arith, v) };
      }
  first_rise c (falls k i l m b r) e g t d = first_rise g.0 r e g.2 (omega (arith, t)) d

  from_stand : (F : Found (From N τ t 0 0 0 (λ c. c))) → From N τ t 0 0 0 (λ c. c) F.port F.context → ⊥
  from_stand F (stands e z st) = stuck F.left 0 0 tt e z F.port F.context st F.place
  from_stand F (last y a c w inside e ep ex) = let l = wire_free τ t names h y w inside e ep in not_free F.place l.0 l.1

  pub goes_round : ⊥
  goes_round =
      let S = first_rise (R.context 0) R.line refl (R.leads 0) (omega arith) R.some in
      let F = find S.left (begins_at τ t names h S.node S.kind_is S.index S.context S.there) S.place in
      from_stand F F.there

pub no_loop : (τ : Translation) (t : Tree) (names : ℕ) → HasNames t names → Loop (translation_of τ t names) → ⊥
no_loop τ t names h L = goes_round τ t names h (rounds (translation_of τ t names) L (levels []))
