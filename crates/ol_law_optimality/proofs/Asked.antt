-- Demand order contracts only what its questions pass.
use Rattle.std.proofs.Common.{◌≡◌, ℕ, zero, suc, ◌+◌, ◌≤◌, ◌⊎◌, inl, inr, List, [], ◌∷◌, ◌++◌}
use Rattle.std.proofs.Common.{length, append-nil, refl, sym, ap, ◌∙◌, subst, arith}
use Rattle.ol_context.proofs.Contexts.{eta}
use Rattle.ol_context.specs.Contexts.{Level, Context, cons, tail}
use Rattle.ol_context.specs.Paths.{inward, outward, Crosses}
use Rattle.ol_demand.proofs.Onward.{is_start}
use Rattle.ol_law_levels.proofs.Runs.{same_levelled, start_levelled}
use Rattle.ol_law_levels.proofs.Terms.{term_is_levelled}
use Rattle.ol_net.specs.Numbered.{net_of}
use Rattle.ol_rules.proofs.Relation.{same_sym}
use Rattle.ol_translate.specs.Translation.{translation_of}
use Rattle.ol_law_optimality.specs.Seen.{BetasOfATermOnDemand}
use Rattle.ol_demand.proofs.Turning.{turns_kept}
use Rattle.ol_demand.specs.Chains.{Chain, starts, crosses, Ends, met, Stands, at_pair}
use Rattle.ol_demand.specs.Demands.{Asking, Turn, rewrites, one_more, finds, Turns, begins, and_then}
use Rattle.ol_demand.specs.Laws.{IsStart}
use Rattle.ol_law_edges.specs.Edges.{IsIn, here, on, back}
use Rattle.ol_law_levels.specs.Levels.{IsLevelled}
use Rattle.ol_net.specs.Nets.{NamedPort, slot, NamedNet, HasNode, IsNet, IsPrincipalOf}
use Rattle.ol_net.specs.declared.parts.Kind.{Kind}
use Rattle.ol_net.specs.declared.parts.Rule.{Rule}
use Rattle.ol_net.specs.declared.parts.Rule.TheVariants as rule
use Rattle.ol_readback.specs.Frames.{asked}
use Rattle.ol_readback.specs.declared.answers.ReadNode.{ReadNode}
use Rattle.ol_rules.proofs.FreshPairs.{linked_sym}
use Rattle.ol_rules.specs.Laws.{AreNamedBefore}
use Rattle.ol_rules.specs.Runs.{IsRun, IsEntryStep}
use Rattle.ol_rules.specs.declared.journal.Entry.{Entry}
use Rattle.ol_rules.specs.declared.journal.NodeName.{NodeName}
use Rattle.ol_law_optimality.specs.RouteLaws.{AreDifferent}
use Rattle.ol_law_optimality.specs.Redexes.{Carries, put}
use Rattle.ol_law_optimality.specs.Routes.{Route, HasRoute, IsLinkOf, IsBetaOf}
use Rattle.ol_law_optimality.specs.Seen.{link, node, IsOnWalk, IsSeen, IsQuestion, DemandContractsTheSeen}
use Rattle.ol_law_optimality.specs.Seen.{DemandContractsTheFewest, MeetsNone, IsAnswered, BetasOfDemand}
use Rattle.ol_law_optimality.proofs.Runs.{kept_net, kept_names, betas_are_routes}
use Rattle.ol_law_optimality.proofs.Seen.{back_of, seen_are_contracted}
use Rattle.ol_law_optimality.proofs.Virtual.{one_index}

-- the first levels of a context, and the others
firsts : ℕ → Context → List Level
firsts zero d = []
firsts (suc n) d = d 0 ∷ firsts n (tail d)

others : ℕ → Context → Context
others zero d = d
others (suc n) d = others n (tail d)

split : (n : ℕ) (d : Context) → put (firsts n d) (others n d) ≡ d
unfolding firsts others
split zero d = refl
split (suc n) d = ap (cons (d 0)) (split n (tail d)) ∙ eta d

firsts_is : (n : ℕ) (d : Context) → length (firsts n d) ≡ n
unfolding firsts
firsts_is zero d = refl
firsts_is (suc n) d = ap suc (firsts_is n (tail d))

module _ {A : Type 0} (N : NamedNet A) (p : ℕ) (c : Context) where
  through : {x : A} {k : Kind} {i s t : ℕ} {d e : Context} → HasNode N x k i → Crosses k i s d t e →
      IsOnWalk N p c (slot x s) d → IsOnWalk N p c (slot x t) e
  through {k = k} {i = i} h (inward b e) o = back o (node k i h b e)
  through {k = k} {i = i} h (outward b e) o = on o (node k i h b e)

  chain_on : {n : ℕ} {u : NamedPort A} {d : Context} → Chain N p c n u d → IsOnWalk N p c u d
  chain_on starts = here
  chain_on (crosses r a b l h y) = through h y (on (chain_on r) (link l))

  -- where a chain meets a pair, the walk is at its first node
  pub met_on : (f g : A) (r : Rule) → Ends N p c (met f g r) →
      (d : Context) × IsOnWalk N p c (slot f 0) d
  met_on f g r h = go h.made h.port h.context h.chain h.stands
    where
      go : (n : ℕ) (u : NamedPort A) (d : Context) → Chain N p c n u d →
          Stands N n u d (met f g r) →
          (d : Context) × IsOnWalk N p c (slot f 0) d
      go n u d s (at_pair a) = (d, by a.principal)
        where
          by : IsPrincipalOf f g u → IsOnWalk N p c (slot f 0) d
          by (inl e) = subst (λ u. IsOnWalk N p c u d) e (chain_on s)
          by (inr e) =
              on (subst (λ u. IsOnWalk N p c u d) e (chain_on s))
              (link (linked_sym N (slot f 0) (slot g 0) a.active.faces.linked))

-- the link of a pair that the walk is at
abbrev LinksAreSeen : {N K : NamedNet NodeName} {t : ℕ} {e : Entry} → ℕ → Context →
    IsEntryStep N t e K → Type 0
LinksAreSeen {N = N} {e = e} p c h = (s : Route NodeName) → HasRoute N s → IsLinkOf h.f h.g s →
    e.rule ≡ rule.Beta → IsSeen N p c s

links_are_seen : {N K : NamedNet NodeName} {t : ℕ} {e : Entry} → IsNet N → (p : ℕ) (c : Context)
    (h : IsEntryStep N t e K) → (d : Context) → IsOnWalk N p c (slot h.f 0) d → LinksAreSeen p c h
links_are_seen {N} n p c h d o s r q b = record {
  redex = record {
    route = r;
    begin = firsts r.i d;
    last = firsts r.i d;
    begin_is = firsts_is r.i d;
    last_is = firsts_is r.i d ∙ one_index n h s r q b;
    carries = λ c. subst (λ w. Carries N (put (firsts r.i d) c) w (put (firsts r.i d) c)) (sym q.0)
        refl;
  };
  rest = others r.i d;
  on_walk = subst (λ d. IsOnWalk N p c (slot s.from 0) d) (sym (split r.i d)) (at q.1);
}
  where
    at : ((s.from ≡ h.f) × (s.to ≡ h.g)) ⊎ ((s.from ≡ h.g) × (s.to ≡ h.f)) →
        IsOnWalk N p c (slot s.from 0) d
    at (inl e) = subst (λ x. IsOnWalk N p c (slot x 0) d) (sym e.0) o
    at (inr e) = subst (λ x. IsOnWalk N p c (slot x 0) d) (sym e.0)
        (on o (link h.step.active.faces.linked))

-- a run with one more entry
abbrev OneMore : {N K : NamedNet NodeName} {t : ℕ} {es : List Entry} → ℕ → Context → Entry →
    NamedNet NodeName → IsRun N t es K → Type 0
OneMore {N = N} {t = t} {es = es} p c e P r = (r' : IsRun N t (es ++ e ∷ []) P)
    × ((n : ℕ) (s : Route NodeName) → IsBetaOf r' n s → IsBetaOf r n s ⊎ IsSeen N p c s)
    × ((n : ℕ) (s : Route NodeName) → IsBetaOf r n s → IsBetaOf r' n s)

longer : (N K P : NamedNet NodeName) (t u : ℕ) (es : List Entry) (e : Entry) (p : ℕ) (c : Context) →
    IsNet N → AreNamedBefore N t → (r : IsRun N t es K) → u ≡ t + length es →
    (h : IsEntryStep K u e P) → LinksAreSeen p c h → OneMore p c e P r
longer N K P t u [] e p c n b IsRun.end q h seen =
    (IsRun.then at.0 IsRun.end, all, λ m s x. absurd x)
  where
    at : (h : IsEntryStep K t e P) × LinksAreSeen p c h
    at = subst (λ u. (h : IsEntryStep K u e P) × LinksAreSeen p c h)
        (let z : u ≡ t = omega (arith, q) in z) (h, seen)

    all : (m : ℕ) (s : Route NodeName) → IsBetaOf (IsRun.then at.0 IsRun.end) m s →
        ⊥ ⊎ IsSeen K p c s
    all zero s x = inr (at.1 s x.1 x.2 x.0)
    all (suc m) s x = absurd x.1.2
longer N K P t u (d ∷ es) e p c n b (IsRun.then {M = Q} h0 r) q h seen =
    go (longer Q K P (suc t) u es e p c (kept_net n b h0) (kept_names b h0) r (omega (arith, q)) h
    seen)
  where
    go : OneMore p c e P r → OneMore p c e P (IsRun.then h0 r)
    go o = (IsRun.then h0 o.0, all, kept)
      where
        kept : (m : ℕ) (s : Route NodeName) → IsBetaOf (IsRun.then h0 r) m s →
            IsBetaOf (IsRun.then h0 o.0) m s
        kept zero s x = x
        kept (suc m) s x = (x.0, (x.1.0, x.1.1, o.2 m x.1.0 x.1.2))

        all : (m : ℕ) (s : Route NodeName) → IsBetaOf (IsRun.then h0 o.0) m s →
            IsBetaOf (IsRun.then h0 r) m s ⊎ IsSeen N p c s
        all zero s x = inl x
        all (suc m) s x = by (o.1 m x.1.0 x.1.2)
          where
            by : IsBetaOf r m x.1.0 ⊎ IsSeen Q p c x.1.0 →
                IsBetaOf (IsRun.then h0 r) (suc m) s ⊎ IsSeen N p c s
            by (inl y) = inl (x.0, (x.1.0, x.1.1, y))
            by (inr S) = inr (back_of n b h0 p c s x.1.0 x.0 x.1.1 S)

abbrev Question : NamedNet NodeName → ℕ → Route NodeName → Type 0
Question N heads s = (p : ℕ) × (c : Context) × IsQuestion N heads p c × IsSeen N p c s

abbrev Asks : NamedNet NodeName → ℕ → List Entry → NamedNet NodeName → Type 0
Asks N heads journal M = (r : IsRun N 0 journal M)
    × ((n : ℕ) (s : Route NodeName) → IsBetaOf r n s → Question N heads s)

asks_on : {N M P : NamedNet NodeName} {heads turns : ℕ} {journal es : List Entry}
    {places ns : List ReadNode} {a b : Asking} → IsStart N →
    Turns N heads turns journal places M a → Turn heads M (length journal) a es ns P b →
    Asks N heads journal M → Asks N heads (journal ++ es) P
asks_on {N} {M} {P} {heads} {turns} {journal} start t (rewrites {F = F} {s = s} {ss = ss} {n =
    n} {e = e} m) o =
    let k = turns_kept start t in
    let w = met_on M s.port (asked s.levels n) m.step.f m.step.g e.rule m.ends.ends in
    let x = longer N M P 0 (length journal) journal e s.port (asked s.levels n) start.net
    start.named
    o.0 (omega arith) m.step
    (links_are_seen k.net s.port (asked s.levels n) m.step w.0 w.1) in
    (x.0, λ i u b. go u (o.1 i u) (x.1 i u b))
  where
    go : {X : Type 0} (u : Route NodeName) → (X → Question N heads u) →
        X ⊎ IsSeen N s.port (asked s.levels n) u → Question N heads u
    go u before (inl y) = before y
    go u before (inr S) = (
      s.port,
      asked s.levels n,
      record {
        turns = _;
        journal = journal;
        places = _;
        net = M;
        frames = F;
        subterm = s;
        later = ss;
        lams = n;
        below = m.ends.below;
        made = t;
        port_is = refl;
        context_is = refl;
      },
      S,
    )
asks_on {N} {M} {P} {heads} {turns} {journal} start t (one_more h l) o =
    subst (λ es. Asks N heads es M) (sym (append-nil journal)) o
asks_on {N} {M} {P} {heads} {turns} {journal} start t (finds h f) o =
    subst (λ es. Asks N heads es M) (sym (append-nil journal)) o

all_asked : {N : NamedNet NodeName} {heads : ℕ} {M : NamedNet NodeName} {turns : ℕ}
    {journal : List Entry} {places : List ReadNode} {a : Asking} → IsStart N →
    Turns N heads turns journal places M a →
    Asks N heads journal M
all_asked start begins = (IsRun.end, λ n s b. absurd b)
all_asked start (and_then r t) = asks_on start r t (all_asked start r)

pub demand_contracts_the_seen : DemandContractsTheSeen
demand_contracts_the_seen N M heads turns journal places a start t = all_asked start t

-- the run of some turns, and the virtual redexes on the walks X
abbrev Contracts : NamedNet NodeName → ℕ → List Entry → NamedNet NodeName →
    (ℕ → Context → Type 0) → Type 0
Contracts N heads journal M X = (r : IsRun N 0 journal M)
    × ((n : ℕ) (s : Route NodeName) → IsBetaOf r n s → Question N heads s)
    × ((p : ℕ) (c : Context) → X p c → (s : Route NodeName) → IsSeen N p c s →
    (n : ℕ) × IsBetaOf r n s)

module _ {N : NamedNet NodeName} {heads : ℕ} (start : IsStart N) (L : IsLevelled N) where
  -- a walk that meets none after the run so far
  met_none : {M : NamedNet NodeName} {journal : List Entry} {X : ℕ → Context → Type 0} →
      (o : Contracts N heads journal M X) → (p : ℕ) (c : Context) → MeetsNone M p c →
      (s : Route NodeName) → IsSeen N p c s → (n : ℕ) × IsBetaOf o.0 n s
  met_none {M = M} {journal = journal} o p c none s S =
      seen_are_contracted N M 0 journal start.net start.named L o.0 p c none s S

  contracts_on : {M P : NamedNet NodeName} {turns : ℕ} {journal es : List Entry}
      {places ns : List ReadNode} {a b : Asking} (r : Turns N heads turns journal places M a)
      (t : Turn heads M (length journal) a es ns P b) → Contracts N heads journal M (IsAnswered r) →
      Contracts N heads (journal ++ es) P (IsAnswered (and_then r t))
  contracts_on {M} {P} {turns} {journal} r (rewrites {F = F} {s = s} {ss = ss} {n = n} {e = e} m)
      o =
      let k = turns_kept start r in
      let w = met_on M s.port (asked s.levels n) m.step.f m.step.g e.rule m.ends.ends in
      let x = longer N M P 0 (length journal) journal e s.port (asked s.levels n) start.net
      start.named o.0 (omega arith) m.step
      (links_are_seen k.net s.port (asked s.levels n) m.step w.0 w.1) in
      (x.0, (λ i u b. go u (o.1 i u) (x.1 i u b)), λ p c y u S. by x p c u S y)
    where
      go : {X : Type 0} (u : Route NodeName) → (X → Question N heads u) →
          X ⊎ IsSeen N s.port (asked s.levels n) u → Question N heads u
      go u before (inl y) = before y
      go u before (inr S) = (
        s.port,
        asked s.levels n,
        record {
          turns = _;
          journal = journal;
          places = _;
          net = M;
          frames = F;
          subterm = s;
          later = ss;
          lams = n;
          below = m.ends.below;
          made = r;
          port_is = refl;
          context_is = refl;
        },
        S,
      )

      by : (x : OneMore s.port (asked s.levels n) e P o.0) (p : ℕ) (c : Context)
          (u : Route NodeName) → IsSeen N p c u → IsAnswered r p c ⊎ ⊥ →
          (n : ℕ) × IsBetaOf x.0 n u
      by x p c u S (inl y) = let z = o.2 p c y u S in (z.0, x.2 z.0 u z.1)
      by x p c u S (inr y) = absurd y
  contracts_on {M} {P} {turns} {journal} r (one_more {s = s} {n = n} h l) o =
      subst (λ es. Contracts N heads es M
      (λ p c. IsAnswered r p c ⊎ ((p ≡ s.port) × (c ≡ asked s.levels n))))
      (sym (append-nil journal)) (o.0, o.1, by)
    where
      by : (p : ℕ) (c : Context) → IsAnswered r p c ⊎ ((p ≡ s.port) × (c ≡ asked s.levels n)) →
          (u : Route NodeName) → IsSeen N p c u → (n : ℕ) × IsBetaOf o.0 n u
      by p c (inl y) u S = o.2 p c y u S
      by p c (inr y) u S =
          met_none o p c (subst (λ p. MeetsNone M p c) (sym y.0)
          (subst (λ c. MeetsNone M s.port c) (sym y.1) (inr h.ends))) u S
  contracts_on {M} {P} {turns} {journal} r (finds {s = s} {n = n} h f) o =
      subst (λ es. Contracts N heads es M
      (λ p c. IsAnswered r p c ⊎ ((p ≡ s.port) × (c ≡ asked s.levels n) × MeetsNone M p c)))
      (sym (append-nil journal)) (o.0, o.1, by)
    where
      by : (p : ℕ) (c : Context) →
          IsAnswered r p c ⊎ ((p ≡ s.port) × (c ≡ asked s.levels n) × MeetsNone M p c) →
          (u : Route NodeName) → IsSeen N p c u → (n : ℕ) × IsBetaOf o.0 n u
      by p c (inl y) u S = o.2 p c y u S
      by p c (inr y) u S = met_none o p c y.2 u S

  contracts : {M : NamedNet NodeName} {turns : ℕ} {journal : List Entry} {places : List ReadNode}
      {a : Asking} (t : Turns N heads turns journal places M a) →
      Contracts N heads journal M (IsAnswered t)
  contracts begins = (IsRun.end, (λ n s b. absurd b), λ p c y s S. absurd y)
  contracts (and_then r t) = contracts_on r t (contracts r)

pub betas_of_demand : BetasOfDemand
betas_of_demand N M heads turns journal places a start L t = contracts start L t

pub betas_of_a_term : BetasOfATermOnDemand
betas_of_a_term τ t names h g n same heads journal places M d =
    let L = start_levelled (net_of g) (same_levelled (translation_of τ t names) (net_of g)
    (same_sym (net_of g) (translation_of τ t names) same) (term_is_levelled τ t names h)) in
    contracts (is_start g n) L d.run

-- an element of a list, and the others
record Out {X : Type 0} (x : X) (ys : List X) : Type 0 where
  others_of : List X
  shorter : length ys ≡ suc (length others_of)
  still : (z : X) → IsIn z ys → (z ≡ x) ⊎ IsIn z others_of

still_more : {X : Type 0} (x y : X) (ys : List X) (o : Out x ys) (z : X) → IsIn z (y ∷ ys) →
    (z ≡ x) ⊎ IsIn z (y ∷ o.others_of)
still_more x y ys o z (inl q) = inr (inl q)
still_more x y ys o z (inr k) = by (o.still z k)
  where
    by : (z ≡ x) ⊎ IsIn z o.others_of → (z ≡ x) ⊎ IsIn z (y ∷ o.others_of)
    by (inl q) = inl q
    by (inr k) = inr (inr k)

still_first : {X : Type 0} (x y : X) (ys : List X) → x ≡ y → (z : X) → IsIn z (y ∷ ys) →
    (z ≡ x) ⊎ IsIn z ys
still_first x y ys e z (inl q) = inl (q ∙ sym e)
still_first x y ys e z (inr i) = inr i

out : {X : Type 0} (x : X) (ys : List X) → IsIn x ys → Out x ys
out x [] i = absurd i
out x (y ∷ ys) (inl e) =
    record { others_of = ys; shorter = refl; still = λ z i. still_first x y ys e z i }
out x (y ∷ ys) (inr i) =
    let o = out x ys i in
    record {
      others_of = y ∷ o.others_of;
      shorter = ap suc o.shorter;
      still = λ z k. still_more x y ys o z k;
    }

-- a list of different routes of another one is no longer
no_longer : (xs ys : List (Route NodeName)) → AreDifferent xs →
    ((x : Route NodeName) → IsIn x xs → IsIn x ys) → length xs ≤ length ys
no_longer [] ys d h = omega arith
no_longer (x ∷ xs) ys d h =
    let o = out x ys (h x (inl refl)) in
    let l = no_longer xs o.others_of d.1 (λ z i. go o z i (o.still z (h z (inr i)))) in
    let s = o.shorter in
    omega arith
  where
    go : (o : Out x ys) (z : Route NodeName) → IsIn z xs → (z ≡ x) ⊎ IsIn z o.others_of →
        IsIn z o.others_of
    go o z i (inl e) = absurd (d.0 (subst (λ z. IsIn z xs) e i))
    go o z i (inr k) = k

pub demand_contracts_the_fewest : DemandContractsTheFewest
demand_contracts_the_fewest N M P heads turns journal other places a start L t r' enough =
    let ls = betas_are_routes N M 0 journal start.net start.named o.0 in
    let ls' = betas_are_routes N P 0 other start.net start.named r' in (
      o.0,
      also,
      (let z = no_longer ls.0 ls'.0 ls.1 (λ s i.
          let x = (ls.3 s i).1 in
          let y = also x.0 s x.1 in
          ls'.4 y.0 s y.1) in
          let c = ls.2 in
          let c' = ls'.2 in
          omega arith),
    )
  where
    o : Asks N heads journal M
    o = all_asked start t

    also : (n : ℕ) (s : Route NodeName) → IsBetaOf o.0 n s → (m : ℕ) × IsBetaOf r' m s
    also n s b =
        let q = o.1 n s b in
        seen_are_contracted N P 0 other start.net start.named L r' q.0 q.1
        (enough q.0 q.1 q.2) s q.3
