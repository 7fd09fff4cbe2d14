-- A run along a journal is a run by birth names.
use Rattle.std.proofs.Common.{◌≡◌, ℕ, suc, ◌+◌, true, false, nat_eq, cond, List, [], ◌∷◌, ◌⊎◌, inl}
use Rattle.std.proofs.Common.{inr, refl, sym, ap, ◌∙◌, subst, arith, eq-eqb}
use Rattle.std.proofs.lemmas.Bool.Decides.{nat_tests}
use Rattle.ol_net.specs.declared.parts.Kind.{Kind}
use Rattle.ol_net.specs.declared.parts.Rule.{Rule}
use Rattle.ol_net.specs.Parts.{arity}
use Rattle.ol_net.specs.Pairs.{IsActive}
use Rattle.ol_net.specs.Nets.{slot, NamedNet, HasNode, IsNet, SameNet, Faces, net_under}
use Rattle.ol_rules.specs.declared.journal.NodeName.{NodeName}
use Rattle.ol_rules.specs.declared.journal.NodeName.TheVariants.{Init, Born}
use Rattle.ol_rules.specs.declared.journal.Entry.{Entry}
use Rattle.ol_rules.specs.Names.{comes_before}
use Rattle.ol_rules.specs.Rewriting.{meeting, crossing, is_meeting, action_of, NodeOf, left, of_f, of_g, Rewrites}
use Rattle.ol_rules.specs.Laws.{AreNamedBefore, IsFresh}
use Rattle.ol_rules.specs.Runs.{IsEntryStep, IsRun}
use Rattle.ol_rules.specs.Runs as runs
use Rattle.ol_rules.proofs.NameOrder.{before_before}
use Rattle.ol_rules.proofs.OneRun.{name_same, name_test, fresh_names, named_after}
use Rattle.ol_rules.proofs.Relation.{same_refl, same_sym, net_kept}
use Rattle.ol_rules.proofs.Renaming.{node_from, net_alike, active_to}
use Rattle.ol_rules.proofs.Same.{active_same, complete_same}
use Rattle.ol_rules.proofs.BothWays.{both_ways}
use Rattle.ol_rules.proofs.UnderNames.{complete_under}
use Rattle.ol_diamond.specs.Births.{BirthName, init, born, IsPart, IsBirthNet}
use Rattle.ol_diamond.specs.Runs.{BirthPair, IsSamePair, IsPairStep, IsPairRun, end, then, pair_under, AreBirths}
use Rattle.ol_diamond.specs.Laws.{RunByBirths, BirthFollows, CompleteFollows, BirthNamesAreOne}
use Rattle.ol_diamond.proofs.Births.{fresh_of}
use Rattle.ol_diamond.proofs.Confluence.{step_keeps, take, fits_at, one_pair, pair_sym, pair_trans}
use Rattle.ol_diamond.proofs.Renaming.{IsRenamed, under_renamed, renamed_under, renamed_net, agree, renamed}

-- ---- journal names

-- a name that was given before this ticket
abbrev pub IsBefore : NodeName → ℕ → Type 0
IsBefore x t = comes_before x (Born t 0) ≡ true

pub on_before : (t p : ℕ) → IsBefore (Born t p) (suc t)
on_before t p = grind (arith, nat_tests)

pub still_before : (x : NodeName) (t : ℕ) → IsBefore x t → IsBefore x (suc t)
still_before x t h = before_before x (Born t 0) (Born (suc t) 0) h (on_before t 0)

start_name : (x : NodeName) → IsBefore x 0 → (k : ℕ) × (x ≡ Init k)
start_name (Init k) h = (k, refl)
start_name (Born t p) h = absurd (clash h)
  where
    clash : IsBefore (Born t p) 0 → ⊥
    clash h = grind (arith, nat_tests)

-- ---- birth names

-- once this ticket rewrote f and g
later : (NodeName → BirthName) → ℕ → BirthName → BirthName → NodeName → BirthName
later m t f g (Init k) = m (Init k)
later m t f g (Born u place) = cond (nat_eq u t) (born f g place) (m (Born u place))

later_old : (m : NodeName → BirthName) (t : ℕ) (f g : BirthName) (x : NodeName) → IsBefore x t → later m t f g x ≡ m x
unfolding later
later_old m t f g (Init k) h = refl
later_old m t f g (Born u place) h = let e : nat_eq u t ≡ false = grind (arith, nat_tests) in
    ap (λ b. cond b (born f g place) (m (Born u place))) e

later_new : (m : NodeName → BirthName) (t : ℕ) (f g : BirthName) (place : ℕ) →
    later m t f g (Born t place) ≡ born f g place
unfolding later
later_new m t f g place = ap (λ b. cond b (born f g place) (m (Born t place))) (eq-eqb t t refl)

-- ---- one step

-- the nets before this ticket, by the journal's names and by birth names
pub record Together (N : NamedNet NodeName) (t : ℕ) (m : NodeName → BirthName) (B : NamedNet BirthName) : Type 0 where
  pub net : IsNet N
  pub before : AreNamedBefore N t
  pub birth_net : IsBirthNet B
  pub renames : IsRenamed m N B

pub record OneOn (M : NamedNet NodeName) (t : ℕ) (e : Entry) (m : NodeName → BirthName)
    (B : NamedNet BirthName) : Type 0 where
  pub pair : BirthPair
  pub first : IsBefore e.first t
  pub second : IsBefore e.second t
  pub same : IsSamePair pair (pair_under m e)
  pub after : NamedNet BirthName
  pub step : IsPairStep B pair after
  pub names : NodeName → BirthName
  pub old : (x : NodeName) → IsBefore x t → names x ≡ m x
  pub new : (place : ℕ) → names (Born t place) ≡ born pair.f pair.g place
  pub on : Together M (suc t) names after
  pub plain : (r : Rule) → IsActive B pair.g pair.f r → (place : ℕ) (k : Kind) (i : ℕ) →
      HasNode M (Born t place) k i → ⊥

-- where either may act, nothing is born
none_born : (N M : NamedNet NodeName) (t : ℕ) (f g : NodeName) (r : Rule) (k : Kind) (i : ℕ)
    (l : Kind) (j : ℕ) → IsFresh N (λ place. Born t place)
    → Rewrites (λ place. Born t place) N f g k i l (action_of r j) M →
    ((is_meeting r ≡ true) × (arity k ≡ arity l)) ⊎ ((arity k ≡ 0) × (arity l ≡ 0))
    → (x : NodeName) (place : ℕ) → x ≡ Born t place → (m : Kind) (n : ℕ) → HasNode M x m n → ⊥
none_born N M t f g r k i l j fresh w plain x place is m n h = go plain x is m n ((w.nodes x m n).0 h)
  where
    crosses : (n : ℕ) → is_meeting r ≡ true → action_of r j ≡ crossing n → ⊥
    crosses n e q = let a : action_of r j ≡ meeting = rw e refl in let bad : meeting ≡ crossing n = sym a ∙ q in cc

    go : ((is_meeting r ≡ true) × (arity k ≡ arity l)) ⊎ ((arity k ≡ 0) × (arity l ≡ 0)) →
        (x : NodeName) → x ≡ Born t place → (m : Kind) (n : ℕ) →
        NodeOf N (λ place. Born t place) f g k i l (action_of r j) x m n → ⊥
    go p x is m n (left h y z) = fresh.unused x m n place h is
    go (inl p) x is m n (of_f u e b) = crosses u p.0 e
    go (inl p) x is m n (of_g u e b) = crosses u p.0 e
    go (inr p) x is m n (of_f u e b) = let z = p.1 in absurd (omega arith)
    go (inr p) x is m n (of_g u e b) = let z = p.0 in absurd (omega arith)

abbrev Either : Entry → NodeName → NodeName → Type 0
Either e f g = ((e.first ≡ f) × (e.second ≡ g)) ⊎ ((e.first ≡ g) × (e.second ≡ f))

pub one_on : (N M : NamedNet NodeName) (t : ℕ) (e : Entry) (m : NodeName → BirthName)
    (B : NamedNet BirthName) → Together N t m B → IsEntryStep N t e M → OneOn M t e m B
one_on N M t e m B tg s =
    let x = s.step.active in
    let f = m s.f in
    let g = m s.g in
    let f_before = tg.before s.f x.k x.i x.faces.first in
    let g_before = tg.before s.g x.l x.j x.faces.second in
    let faces : Faces B f g x.k x.i x.l x.j = record {
      first = tg.renames.nodes_to s.f x.k x.i x.faces.first;
      second = tg.renames.nodes_to s.g x.l x.j x.faces.second;
      linked = tg.renames.links_to (slot s.f 0) (slot s.g 0) x.faces.linked;
    } in
    let p : BirthPair = record { f = f; g = g; rule = e.rule } in
    let a = take B tg.birth_net p x.k x.i x.l x.j faces x.fits in
    let m' = later m t f g in
    let ef = later_old m t f g s.f f_before in
    let eg = later_old m t f g s.g g_before in
    let r = agree m m' N B tg.net (λ y k i h. later_old m t f g y (tg.before y k i h)) tg.renames in
    let fresh = fresh_names N t tg.before in
    let fresh' = fresh_of B tg.birth_net f g x.k x.l x.i x.j faces.first faces.second in
    let w = subst (λ g'. Rewrites (born f g) B (m' s.f) g' x.k x.i x.l
    (action_of e.rule x.j) a.after) (sym eg)
    (subst (λ f'. Rewrites (born f g) B f' g x.k x.i x.l (action_of e.rule x.j) a.after) (sym ef) a.rewrites) in
    record {
      pair = p;
      first = first_before s.named.pair f_before g_before;
      second = second_before s.named.pair f_before g_before;
      same = (refl, named s.named.pair);
      after = a.after;
      step = a.step;
      names = m';
      old = later_old m t f g;
      new = later_new m t f g;
      on = record {
        net = net_kept name_same name_test (λ place.
            Born t place) N s.f s.g x.k x.i x.l x.j e.rule tg.net x.faces fresh x.fits M s.step.rewrites;
        before = named_after N M t s.f s.g x.k x.i x.l (action_of e.rule x.j) tg.before s.step.rewrites;
        birth_net = step_keeps B a.after p tg.birth_net a.step;
        renames = renamed m' N B r tg.net s.f s.g x.k x.i x.l x.j (action_of e.rule x.j) x.faces
            (λ place. Born t place) (born f g) fresh fresh' (later_new m t f g) M a.after s.step.rewrites w;
      };
      plain = λ r turned place k i h.
          let fits = fits_at B tg.birth_net g f r turned x.l x.j x.k x.i faces.second faces.first in
          none_born N M t s.f s.g e.rule x.k x.i x.l x.j fresh s.step.rewrites
          (both_ways x.k x.l x.i x.j e.rule r x.fits fits).plain (Born t place) place refl k i h;
    }
  where
    first_before : Either e s.f s.g → IsBefore s.f t → IsBefore s.g t → IsBefore e.first t
    first_before (inl h) a b = subst (λ x. IsBefore x t) (sym h.0) a
    first_before (inr h) a b = subst (λ x. IsBefore x t) (sym h.0) b

    second_before : Either e s.f s.g → IsBefore s.f t → IsBefore s.g t → IsBefore e.second t
    second_before (inl h) a b = subst (λ x. IsBefore x t) (sym h.1) b
    second_before (inr h) a b = subst (λ x. IsBefore x t) (sym h.1) a

    named : Either e s.f s.g → ((m s.f ≡ m e.first) × (m s.g ≡ m e.second))
        ⊎ ((m s.f ≡ m e.second) × (m s.g ≡ m e.first))
    named (inl h) = inl (ap m (sym h.0), ap m (sym h.1))
    named (inr h) = inr (ap m (sym h.1), ap m (sym h.0))

-- the pair of the step is that of its two nodes, with the rule of the entry
pub pair_is : (N M : NamedNet NodeName) (t : ℕ) (e : Entry) (m : NodeName → BirthName)
    (B : NamedNet BirthName) (tg : Together N t m B) (s : IsEntryStep N t e M) →
    let p = (one_on N M t e m B tg s).pair in (p.f ≡ m s.f) × (p.g ≡ m s.g) × (p.rule ≡ e.rule)
unfolding one_on
pair_is N M t e m B tg s = (refl, refl, refl)

-- ---- runs

record AllOn (M : NamedNet NodeName) (t : ℕ) (es : List Entry) (m : NodeName → BirthName)
    (B : NamedNet BirthName) : Type 0 where
  pairs : List BirthPair
  after : NamedNet BirthName
  run : IsPairRun B pairs after
  names : NodeName → BirthName
  old : (x : NodeName) → IsBefore x t → names x ≡ m x
  births : AreBirths names t es pairs
  net : IsNet M
  renames : IsRenamed names M after

all_on : (N M : NamedNet NodeName) (t : ℕ) (es : List Entry) (m : NodeName → BirthName)
    (B : NamedNet BirthName) → Together N t m B → IsRun N t es M → AllOn M t es m B
all_on N M t [] m B tg runs.IsRun.end = record {
  pairs = [];
  after = B;
  run = end;
  names = m;
  old = λ x h. refl;
  births = tt;
  net = tg.net;
  renames = tg.renames;
}
all_on N M t (e ∷ es) m B tg (runs.IsRun.then {M = K} s r) =
    let a = one_on N K t e m B tg s in
    let b = all_on K M (suc t) es a.names a.after a.on r in
    let old : (x : NodeName) → IsBefore x t → b.names x ≡ m x = λ x h. b.old x (still_before x t h) ∙ a.old x h in
    record {
      pairs = a.pair ∷ b.pairs;
      after = b.after;
      run = then a.step b.run;
      names = b.names;
      old = old;
      births = (
        alike a.pair b.names (old e.first a.first) (old e.second a.second) a.same,
        (λ place. b.old (Born t place) (on_before t place) ∙ a.new place),
        b.births,
      );
      net = b.net;
      renames = b.renames;
    }
  where
    alike : (p : BirthPair) (n : NodeName → BirthName) → n e.first ≡ m e.first →
        n e.second ≡ m e.second → IsSamePair p (pair_under m e) → IsSamePair p (pair_under n e)
    alike p n x y (r, inl h) = (r, inl (h.0 ∙ sym x, h.1 ∙ sym y))
    alike p n x y (r, inr h) = (r, inr (h.0 ∙ sym y, h.1 ∙ sym x))

-- ---- from a net of start nodes

abbrev pub by_number : NodeName → BirthName
by_number (Init k) = init k
by_number (Born t place) = init 0

module _ (N : NamedNet NodeName) (net : IsNet N) (before : AreNamedBefore N 0) where
  pub start_apart : (x y : NodeName) (k l : Kind) (i j : ℕ) → HasNode N x k i → HasNode N y l j →
      by_number x ≡ by_number y → x ≡ y
  start_apart x y k l i j h h' e = go x y (start_name x (before x k i h)) (start_name y (before y l j h')) e
    where
      go : (x y : NodeName) → (n : ℕ) × (x ≡ Init n) → (n : ℕ) × (y ≡ Init n) → by_number x ≡ by_number y → x ≡ y
      go x y (m, a) (n, b) e = let z : init m ≡ init n = ap by_number (sym a) ∙ e
          ∙ ap by_number b in let w : m ≡ n = cc in a ∙ ap (λ n. Init n) w ∙ sym b

  pub start_renamed : IsRenamed by_number N (net_under by_number N)
  start_renamed = under_renamed by_number N start_apart

  pub start_net : IsBirthNet (net_under by_number N)
  start_net = record { net = renamed_net by_number N (net_under by_number N) start_renamed net; no_part = no_part }
    where
      whole : (x : BirthName) (y : NodeName) → (n : ℕ) × (y ≡ Init n) → IsPart x (by_number y) → ⊥
      whole x y (n, e) p = subst (λ y. IsPart x (by_number y)) e p

      no_part : (x y : BirthName) (k l : Kind) (i j : ℕ) → HasNode (net_under by_number N) x k i →
          HasNode (net_under by_number N) y l j → IsPart x y → ⊥
      no_part x y k l i j h h' p = let t = node_from by_number N y l j h' in
          whole x t.0 (start_name t.0 (before t.0 l j t.1)) (subst (λ y. IsPart x y) t.2 p)

  along : (M : NamedNet NodeName) (journal : List Entry) → IsRun N 0 journal M →
      AllOn M 0 journal by_number (net_under by_number N)
  along M journal r = all_on N M 0 journal by_number (net_under by_number N)
      (record { net = net; before = before; birth_net = start_net; renames = start_renamed }) r

pub birth_follows : BirthFollows
birth_follows N M journal net before r =
    let a = along N net before M journal r in
    let e : net_under a.names N ≡ net_under by_number N = net_alike a.names by_number N net
    (λ x k i h. a.old x (before x k i h)) in
    record {
      birth = a.names;
      initial = λ k. a.old (Init k) refl;
      pairs = a.pairs;
      births = a.births;
      start = subst (λ B. IsBirthNet B) (sym e) (start_net N net before);
      after = a.after;
      run = subst (λ B. IsPairRun B a.pairs a.after) (sym e) a.run;
      same = renamed_under a.names M a.after a.renames;
      apart = a.renames.apart;
    }

pub complete_follows : CompleteFollows
complete_follows N M journal net before run r = (
  (λ c. complete_same (net_under r.birth M) r.after (same_sym r.after (net_under r.birth M) r.same)
      (complete_under r.birth M (along N net before M journal run).net r.apart c)),
  (λ c f g rule a. complete_same r.after (net_under r.birth M) r.same c (r.birth f) (r.birth g) rule
      (active_to r.birth M f g rule a)),
)

-- ---- two namings of one journal

-- a naming of the journal's nodes from this ticket on, and the run of which it tells, beside the names n so far
record NamedOn (N : NamedNet NodeName) (t : ℕ) (es : List Entry) (n : NodeName → BirthName)
    (B : NamedNet BirthName) (m : NodeName → BirthName) : Type 0 where
  alike : (x : NodeName) (k : Kind) (i : ℕ) → HasNode N x k i → m x ≡ n x
  pairs : List BirthPair
  births : AreBirths m t es pairs
  from : NamedNet BirthName
  after : NamedNet BirthName
  same : SameNet B from
  run : IsPairRun from pairs after

module _ (N K : NamedNet NodeName) (t : ℕ) (e : Entry) (es : List Entry) (n : NodeName → BirthName)
    (B : NamedNet BirthName) (tg : Together N t n B) (s : IsEntryStep N t e K) (m : NodeName → BirthName)
    (alike : (x : NodeName) (k : Kind) (i : ℕ) → HasNode N x k i → m x ≡ n x) (a : OneOn K t e n B) where
  first_alike : Either e s.f s.g → m e.first ≡ n e.first
  first_alike (inl h) = let x = s.step.active in subst (λ y. m y ≡ n y) (sym h.0) (alike s.f x.k x.i x.faces.first)
  first_alike (inr h) = let x = s.step.active in subst (λ y. m y ≡ n y) (sym h.0) (alike s.g x.l x.j x.faces.second)

  second_alike : Either e s.f s.g → m e.second ≡ n e.second
  second_alike (inl h) = let x = s.step.active in subst (λ y. m y ≡ n y) (sym h.1) (alike s.g x.l x.j x.faces.second)
  second_alike (inr h) = let x = s.step.active in subst (λ y. m y ≡ n y) (sym h.1) (alike s.f x.k x.i x.faces.first)

  under : (p : BirthPair) → IsSamePair p (pair_under m e) → IsSamePair p (pair_under n e)
  under p (r, inl h) = (r, inl (h.0 ∙ first_alike s.named.pair, h.1 ∙ second_alike s.named.pair))
  under p (r, inr h) = (r, inr (h.0 ∙ second_alike s.named.pair, h.1 ∙ first_alike s.named.pair))

  to_pair : (p : BirthPair) → IsSamePair p (pair_under m e) → IsSamePair p a.pair
  to_pair p h = pair_trans p (pair_under n e) a.pair (under p h) (pair_sym a.pair (pair_under n e) a.same)

  module _ (p : BirthPair) (same : IsSamePair p a.pair) (active : IsActive B p.f p.g p.rule)
      (born_by : (place : ℕ) → m (Born t place) ≡ born p.f p.g place) where
    new_alike : (place : ℕ) (k : Kind) (i : ℕ) → HasNode K (Born t place) k i →
        m (Born t place) ≡ a.names (Born t place)
    new_alike place k i h = go same.1
      where
        go : ((p.f ≡ a.pair.f) × (p.g ≡ a.pair.g)) ⊎ ((p.f ≡ a.pair.g) × (p.g ≡ a.pair.f)) →
            m (Born t place) ≡ a.names (Born t place)
        go (inl q) = born_by place ∙ ap (λ f. born f p.g place) q.0
            ∙ ap (λ g. born a.pair.f g place) q.1 ∙ sym (a.new place)
        go (inr q) = absurd (a.plain p.rule (subst (λ g. IsActive B a.pair.g g p.rule) q.1
            (subst (λ f. IsActive B f p.g p.rule) q.0 active)) place k i h)

    all_alike : (x : NodeName) (k : Kind) (i : ℕ) → HasNode K x k i → m x ≡ a.names x
    all_alike x k i h = go x k i h ((s.step.rewrites.nodes x k i).0 h)
      where
        go : (x : NodeName) (k : Kind) (i : ℕ) → HasNode K x k i →
            NodeOf N (λ place. Born t place) s.f s.g s.step.active.k s.step.active.i s.step.active.l
            (action_of e.rule s.step.active.j) x k i → m x ≡ a.names x
        go x k i h (left h' y z) = alike x k i h' ∙ sym (a.old x (tg.before x k i h'))
        go x k i h (of_f {q = q} u c b) = new_alike q k i h
        go x k i h (of_g {p = q} u c b) = new_alike (arity s.step.active.l + q) k i h

-- the rest of the naming, once the entry's pair p was rewritten
named_tail : (N K : NamedNet NodeName) (t : ℕ) (e : Entry) (es : List Entry)
    (n : NodeName → BirthName) (B : NamedNet BirthName) → Together N t n B →
    (s : IsEntryStep N t e K) → (a : OneOn K t e n B) →
    (m : NodeName → BirthName) → ((x : NodeName) (k : Kind) (i : ℕ) → HasNode N x k i → m x ≡ n x) →
    (p : BirthPair) (ps : List BirthPair) → AreBirths m t (e ∷ es) (p ∷ ps) →
    (from C after : NamedNet BirthName) → SameNet B from → IsPairStep from p C →
    IsPairRun C ps after → NamedOn K (suc t) es a.names a.after m
named_tail N K t e es n B tg s a m alike p ps b from C after same d r =
    let one = to_pair N K t e es n B tg s m alike a p b.0 in
    let active = active_same from B (same_sym B from same) p.f p.g p.rule d.active in
    record {
      alike = all_alike N K t e es n B tg s m alike a p one active b.1;
      pairs = ps;
      births = b.2;
      from = C;
      after = after;
      same = one_pair B from a.after C a.pair p (pair_sym p a.pair one) tg.birth_net same a.step d;
      run = r;
    }

named_on : (N K : NamedNet NodeName) (t : ℕ) (e : Entry) (es : List Entry)
    (n : NodeName → BirthName) (B : NamedNet BirthName) → Together N t n B →
    (s : IsEntryStep N t e K) → (a : OneOn K t e n B) →
    (m : NodeName → BirthName) → NamedOn N t (e ∷ es) n B m → NamedOn K (suc t) es a.names a.after m
named_on N K t e es n B tg s a m u = go u.pairs u.births u.run
  where
    go : (ps : List BirthPair) → AreBirths m t (e ∷ es) ps → IsPairRun u.from ps u.after →
        NamedOn K (suc t) es a.names a.after m
    go [] b r = absurd b
    go (p ∷ ps) b (then {M = C} d r) = named_tail N K t e es n B tg s a m u.alike p ps b u.from C u.after u.same d r

both_alike : (N M : NamedNet NodeName) (t : ℕ) (es : List Entry) (n : NodeName → BirthName)
    (B : NamedNet BirthName) → Together N t n B → IsRun N t es M →
    (m m' : NodeName → BirthName) → NamedOn N t es n B m → NamedOn N t es n B m' →
    (x : NodeName) (k : Kind) (i : ℕ) → HasNode M x k i → m x ≡ m' x
both_alike N M t [] n B tg runs.IsRun.end m m' u v x k i h = u.alike x k i h ∙ sym (v.alike x k i h)
both_alike N M t (e ∷ es) n B tg (runs.IsRun.then {M = K} s r) m m' u v x k i h =
    let a = one_on N K t e n B tg s in
    both_alike K M (suc t) es a.names a.after a.on r m m' (named_on N K t e es n B tg s a m u)
    (named_on N K t e es n B tg s a m' v) x k i h

module _ (N M : NamedNet NodeName) (journal : List Entry) (net : IsNet N) (before : AreNamedBefore N 0) where
  start_names : (r : RunByBirths N journal M) (x : NodeName) (k : Kind) (i : ℕ) → HasNode N x k i →
      r.birth x ≡ by_number x
  start_names r x k i h = let y = start_name x (before x k i h) in
      ap r.birth y.1 ∙ r.initial y.0 ∙ sym (ap by_number y.1)

  start_same : (r : RunByBirths N journal M) → SameNet (net_under by_number N) (net_under r.birth N)
  start_same r = subst (λ B. SameNet (net_under by_number N) B)
      (sym (net_alike r.birth by_number N net (start_names r))) (same_refl (net_under by_number N))

  named_start : (r : RunByBirths N journal M) → NamedOn N 0 journal by_number (net_under by_number N) r.birth
  named_start r = record {
    alike = start_names r;
    pairs = r.pairs;
    births = r.births;
    from = net_under r.birth N;
    after = r.after;
    same = start_same r;
    run = r.run;
  }

  together_start : Together N 0 by_number (net_under by_number N)
  together_start = record {
    net = net;
    before = before;
    birth_net = start_net N net before;
    renames = start_renamed N net before;
  }

pub birth_names_are_one : BirthNamesAreOne
birth_names_are_one N M journal net before run r s x k i h =
    both_alike N M 0 journal by_number (net_under by_number N)
    (together_start N M journal net before) run r.birth s.birth
    (named_start N M journal net before r) (named_start N M journal net before s) x k i h

-- ---- and they have the same pairs

-- one by one the same pairs
abbrev pub AreSamePairs : List BirthPair → List BirthPair → Type 0
AreSamePairs [] [] = Unit {0}
AreSamePairs (p ∷ ps) (q ∷ qs) = IsSamePair p q × AreSamePairs ps qs
AreSamePairs _ _ = ⊥

both_pairs : (N M : NamedNet NodeName) (t : ℕ) (es : List Entry) (n : NodeName → BirthName)
    (B : NamedNet BirthName) → Together N t n B → IsRun N t es M → (m m' : NodeName → BirthName) →
    ((x : NodeName) (k : Kind) (i : ℕ) → HasNode N x k i → m x ≡ n x) →
    ((x : NodeName) (k : Kind) (i : ℕ) → HasNode N x k i → m' x ≡ n x) →
    (ps qs : List BirthPair) → AreBirths m t es ps → AreBirths m' t es qs →
    (from from' after after' : NamedNet BirthName) → SameNet B from → SameNet B from' →
    IsPairRun from ps after → IsPairRun from' qs after' → AreSamePairs ps qs
unfolding named_tail
both_pairs N M t [] n B tg runs.IsRun.end m m' u v [] [] b b' from from' after after' same same' r r' = tt
both_pairs N M t [] n B tg runs.IsRun.end m m' u v [] (q ∷ qs) b b' from from' after after' same same' r r' = absurd b'
both_pairs N M t [] n B tg runs.IsRun.end m m' u v (p ∷ ps) qs b b' from from' after after' same same' r r' = absurd b
both_pairs N M t (e ∷ es) n B tg (runs.IsRun.then s x) m m' u v [] qs b b' from from' after after'
    same same' r r' = absurd b
both_pairs N M t (e ∷ es) n B tg (runs.IsRun.then s x) m m' u v
    (p ∷ ps) [] b b' from from' after after' same same' r r' = absurd b'
both_pairs N M t (e ∷ es) n B tg (runs.IsRun.then {M = K} s x) m m' u v (p ∷ ps)
    (q ∷ qs) b b' from from' after after' same same' (then {M = C} d r) (then {M = C'} d' r') =
    let a = one_on N K t e n B tg s in
    let y = to_pair N K t e es n B tg s m u a p b.0 in
    let z = to_pair N K t e es n B tg s m' v a q b'.0 in
    let f = named_tail N K t e es n B tg s a m u p ps b from C after same d r in
    let f' = named_tail N K t e es n B tg s a m' v q qs b' from' C' after' same' d' r' in (
      pair_trans p a.pair q y (pair_sym q a.pair z),
      both_pairs K M (suc t) es a.names a.after a.on x m m' f.alike f'.alike ps qs b.2 b'.2 C C'
          after after' f.same f'.same r r',
    )

pub same_pairs : (N M : NamedNet NodeName) (journal : List Entry) → IsNet N → AreNamedBefore N 0 →
    IsRun N 0 journal M → (r s : RunByBirths N journal M) → AreSamePairs r.pairs s.pairs
same_pairs N M journal net before run r s =
    both_pairs N M 0 journal by_number (net_under by_number N)
    (together_start N M journal net before) run r.birth s.birth
    (start_names N M journal net before r) (start_names N M journal net before s) r.pairs s.pairs r.births s.births
    (net_under r.birth N) (net_under s.birth N) r.after s.after
    (start_same N M journal net before r) (start_same N M journal net before s) r.run s.run
