-- The turns of a demand run that asks for so many heads, where so many are there: its questions are after the first
-- places of the term, and each question after one of them is answered.
use Rattle.std.proofs.Common.{◌≡◌, ℕ, zero, suc, ◌+◌, ◌≤◌, ◌<◌, ◌⊎◌, inl, inr, List, [], ◌∷◌, ◌++◌, length, Some, true}
use Rattle.std.proofs.Common.{false, refl, sym, ap, ◌∙◌, subst, arith}
use Rattle.std.proofs.lemmas.Bool.{cases_lt}
use Rattle.std.proofs.lemmas.List.{length_push}
use Rattle.ol_context.specs.Asked.{os, asked}
use Rattle.ol_context.specs.Contexts.{Level, empty, star, Context, cons, tail, levels}
use Rattle.ol_context.specs.Paths.{Path, HaveSamePaths}
use Rattle.ol_net.specs.Nets.{NamedNet, free, IsNet}
use Rattle.ol_rules.specs.declared.journal.Entry.{Entry}
use Rattle.ol_rules.specs.declared.journal.NodeName.{NodeName}
use Rattle.ol_readback.specs.Frames.{Frame}
use Rattle.ol_readback.specs.Heads.{Answer, head, no_head, matched, NoPath, IsHead, IsMatched}
use Rattle.ol_readback.specs.Heads as heads
use Rattle.ol_readback.specs.ReadTrees.{Subterm, whole_term, framed, port_of, arguments}
use Rattle.ol_readback.specs.declared.answers.HeadVar.{HeadVar}
use Rattle.ol_readback.specs.Terms.{HasAllHeads}
use Rattle.ol_readback.specs.declared.answers.ReadNode.{ReadNode}
use Rattle.ol_readback.proofs.Forests.{frame_last}
use Rattle.ol_readback.proofs.Kept.{heads_are_kept}
use Rattle.ol_readback.proofs.One.{exit_is_one}
use Rattle.ol_demand.specs.Chains as chain
use Rattle.ol_demand.specs.Chains.{Ends}
use Rattle.ol_demand.specs.Demands.{Asking, asks, IsFound, exits, lost, spent, next, place_of, Turn, rewrites, one_more}
use Rattle.ol_demand.specs.Demands.{finds, Turns, begins, and_then}
use Rattle.ol_demand.specs.Laws.{IsStart}
use Rattle.ol_demand.proofs.Chains.{path_at}
use Rattle.ol_demand.proofs.SourceHeads.{Tried, tried_more, tried_none}
use Rattle.ol_demand.proofs.Turning.{turns_kept}
use Rattle.ol_law_levels.specs.Levels.{IsLevelled}
use Rattle.ol_law_levels.proofs.Budgets.{spent_is_lost}
use Rattle.ol_law_levels.proofs.Lost.{lost_is_lost}
use Rattle.ol_law_levels.proofs.Runs.{run_keeps}
use Rattle.ol_law_meaning.specs.Contraction.{Tree, Wire, Place, root}
use Rattle.ol_law_meaning.specs.Heads.{Spine, head_var, head_free, head_app, Normal, flat, layer, Steps, done, step}
use Rattle.ol_law_meaning.specs.Heads.{SameAlong, Arg, last, earlier, inner, StandsAt}
use Rattle.ol_law_meaning.specs.Seen.{ahead, Chain, IsChain, Seats, IsSeen, WholeSeats, ArgSeats}
use Rattle.ol_law_meaning.proofs.Based.{term_seen}
use Rattle.ol_law_meaning.proofs.Endless.{comes_to_none, normal_stops}
use Rattle.ol_law_meaning.proofs.HeadSteps.{reduces}
use Rattle.ol_law_meaning.proofs.Matched.{chain_grows}
use Rattle.ol_law_meaning.proofs.Seats.{spot_is}
use Rattle.ol_law_meaning.proofs.Shapes.{normal_is}
use Rattle.ol_law_meaning.proofs.Showing.{exit_of, exit_matches, chain_more, asked_is, is_head_of, port_of_stays}
use Rattle.ol_law_meaning.proofs.Showing.{no_head_is, Exit}
use Rattle.ol_law_meaning.proofs.Sights.{arg_seen}
use Rattle.ol_law_meaning.proofs.Walking.{least_or}
use Rattle.ol_law_optimality.specs.Seen.{IsQuestion, AnswersNow, IsAnswered, MeetsNone}
use Rattle.ol_law_meaning.specs.Spots.{place}
use Rattle.ol_term.specs.declared.translations.Translation.{Translation}
use Rattle.ol_translate.specs.Names.{HasNames}
use Rattle.ol_translate.specs.Translation.{translation_of}
use Rattle.ol_law_optimality.proofs.Wanted.{Asks, whole, part, one_step, arg_stops}
use Rattle.ol_law_optimality.proofs.Answering.{rest_of, port_of_place}
use Rattle.ol_law_optimality.proofs.DegreesWanted.{Close, Reached}
use Rattle.ol_law_optimality.proofs.FirstHeadsPlaces.{Heads, not_asked, is_asked, of_var, of_free, of_lam, of_app}
use Rattle.ol_law_optimality.proofs.FirstHeadsPlaces.{same_form, one_left, Before, IsAt, nothing_at}
use Rattle.ol_law_confluence.proofs.Printed.{heads_append}

-- ---- an argument at the end of some head steps is one of the head normal form

module _ (τ : Translation) where
  record Carried {P R u Q l : Tree} {m j i : ℕ} (s : Steps P u m) (k : Arg u i Q) (r : Steps R l j) : Type 0 where
    arg : Arg l i Q
    stands : (x y : Place) (v b : Level) (c d : Context) → StandsAt τ k empty x v c y b d →
        StandsAt τ arg empty x v c y b d
    same : (y : Place) (w b : Level) → SameAlong τ s y w b → SameAlong τ r y w b
    before : (n l : ℕ) → Before n k l → Before n arg l

  carried : {P u Q l : Tree} {m j i : ℕ} {q : Place} {a : Level} {e : ℕ} (s : Steps P u m) (k : Arg u i Q)
      (r : Steps P l j) → Normal l q a e → Carried s k r
  carried done k done n = record {
    arg = k;
    stands = λ x y v b c d h. h;
    same = λ y w b h. h;
    before = λ n l h. h;
  }
  carried done k (step h r) n = absurd (arg_stops k h)
  carried (step h s) k done n = absurd (normal_stops n h)
  carried {l = l} (step h s) k (step {m = j} g r) n =
      let z = one_step g h in
      let c = subst (λ b. (r : Steps b l j) → Carried s k r) z.is (λ r. carried s k r n) r in
      record {
        arg = c.arg;
        stands = c.stands;
        same = λ y w v f. (f.0, z.same τ y w f.0 f.1, c.same y f.0 v f.2);
        before = c.before;
      }

-- ---- the arguments that a head leaves to be read

abbrev item : ℕ → ℕ → List Level → ℕ → Subterm
item p q ls i = record { port = q; levels = ls ++ os i (star empty) ∷ []; parent = Some p }

last_item : (p q : ℕ) (ls : List Level) (j k : ℕ) (ss : List Subterm) →
    arguments p q ls j k ++ item p q ls (j + k) ∷ ss ≡ arguments p q ls j (suc k) ++ ss
last_item p q ls j zero ss = ap (λ i. item p q ls i ∷ ss) (let e : j + 0 ≡ j = omega arith in e)
last_item p q ls j (suc k) ss = ap (λ xs. item p q ls j ∷ xs)
    (ap (λ i. arguments p q ls (suc j) k ++ item p q ls i ∷ ss) (let e : j + suc k ≡ suc j + k = omega arith in e)
    ∙ last_item p q ls (suc j) k ss)

last_one : (p q : ℕ) (ls : List Level) (k : ℕ) (ss : List Subterm) →
    arguments p q ls 0 k ++ item p q ls k ∷ ss ≡ arguments p q ls 0 (suc k) ++ ss
last_one p q ls k ss = ap (λ i. arguments p q ls 0 k ++ item p q ls i ∷ ss) (let e : k ≡ 0 + k = omega arith in e)
    ∙ last_item p q ls 0 k ss

one_count : {R : Tree} {y z : Wire} {a b : Level} {j k : ℕ} → Spine R y a j → Spine R z b k → j ≡ k
one_count head_var head_var = refl
one_count head_free head_free = refl
one_count (head_app s e) (head_app r f) = ap suc (one_count s r)

-- so many are left behind an argument before which so many were left
arg_heads : {u Q : Tree} {b l i : ℕ} (j : ℕ) → Heads false b u l → (arg : Arg u i Q) → Before b arg j →
    (k : ℕ) × Heads true j Q k
arg_heads {Q = Q} j (of_app {m = m} h x) (last s) o = (m, subst (λ k. Heads true k Q m) (one_left h o) x)
arg_heads j (of_app h x) (earlier s k) o = arg_heads j h k o
arg_heads j (of_lam h) (inner k) o = arg_heads j h k o
arg_heads j of_var k o = elim k [ ]
arg_heads j of_free k o = elim k [ ]

-- ---- what waits

module _ (τ : Translation) (t : Tree) (names : ℕ) (h : HasNames t names) (many : ℕ) where
  abbrev N : NamedNet ℕ
  N = translation_of τ t names

  -- where a question after one of the first n places of the subterm begins in the net, there one after one of the whole
  -- term's first places begins
  abbrev Leads : ℕ → Tree → Seats → Type 0
  Leads n P S = (x : Place) (v : Level) (c : Context) (q : ℕ) (X : Context) (a : Asks τ P x v c) →
      IsAt n P x v c a → S x v c q X →
      (b : Asks τ t (place q) (X 0) (tail X)) × IsAt many t (place q) (X 0) (tail X) b

  -- the subterm is seen in the net, and of n heads m are left behind it
  record Waits (F : List Frame) (n : ℕ) (s : Subterm) (m : ℕ) : Type 1 where
    part : Tree
    chain : Chain
    seats : Seats
    seen : IsSeen τ N chain s.port s.levels part seats
    is_chain : IsChain F (length F) s.parent chain
    leads : Leads n part seats
    heads : Heads true n part m

  data AllWait (F : List Frame) : ℕ → List Subterm → Type 1 where
    none : {n : ℕ} → AllWait F n []
    more : {n m : ℕ} {s : Subterm} {ss : List Subterm} → Waits F n s m → AllWait F m ss → AllWait F n (s ∷ ss)

  later_frame : {F : List Frame} {n m : ℕ} {s : Subterm} (f : Frame) → Waits F n s m → Waits (F ++ f ∷ []) n s m
  later_frame {F = F} {s = s} f w =
      let n = length_push F f in
      record {
        part = w.part;
        chain = w.chain;
        seats = w.seats;
        seen = w.seen;
        is_chain = chain_more F (f ∷ []) (length F) (length (F ++ f ∷ [])) s.parent w.chain (omega arith) w.is_chain;
        leads = w.leads;
        heads = w.heads;
      }

  wait_on : {F : List Frame} {n : ℕ} {ss : List Subterm} (f : Frame) → AllWait F n ss → AllWait (F ++ f ∷ []) n ss
  wait_on f none = none
  wait_on f (more w ws) = more (later_frame f w) (wait_on f ws)

  -- ---- the question that is looked for

  -- a question of a part that begins at this port of the net
  record Sought (n : ℕ) (P : Tree) (S : Seats) (q : ℕ) (X : Context) : Type 0 where
    place : Place
    level : Level
    rest : Context
    asks : Asks τ P place level rest
    is_at : IsAt n P place level rest asks
    close : Close τ P place level rest asks
    seat : S place level rest q X

  data In (q : ℕ) (X : Context) (F : List Frame) : ℕ → List Subterm → Type 1 where
    here : {n m : ℕ} {s : Subterm} {ss : List Subterm} (w : Waits F n s m) → Sought n w.part w.seats q X →
        In q X F n (s ∷ ss)
    there : {n m : ℕ} {s : Subterm} {ss : List Subterm} → Waits F n s m → In q X F m ss → In q X F n (s ∷ ss)

  in_later : {q : ℕ} {X : Context} {F : List Frame} {n : ℕ} {ss : List Subterm} (f : Frame) → In q X F n ss →
      In q X (F ++ f ∷ []) n ss
  unfolding later_frame
  in_later f (here w k) = here (later_frame f w) k
  in_later f (there w i) = there (later_frame f w) (in_later f i)

  -- where no place is asked any more it isn't there
  all_past : {q : ℕ} {X : Context} {F : List Frame} {ss : List Subterm} (n : ℕ) → n ≡ 0 → In q X F n ss → ⊥
  all_past n e (here w k) =
      nothing_at w.part k.place k.level k.rest k.asks
      (subst (λ n. IsAt n w.part k.place k.level k.rest k.asks) e k.is_at)
  all_past n e (there {m = m} w i) = all_past m (none_after n m w.heads e) i
    where
      none_after : {P : Tree} (n m : ℕ) → Heads true n P m → n ≡ 0 → m ≡ 0
      none_after n m not_asked e = refl
      none_after n m (is_asked s k h) e = absurd (omega (arith, e))

  -- ---- the arguments of a head

  module _ (p q : ℕ) (ls : List Level) (F : List Frame) (b : ℕ) where
    abbrev Each : Tree → Type 1
    Each u = (i : ℕ) (P : Tree) (k : Arg u i P) (l m : ℕ) → Before b k l → Heads true l P m →
        Waits F l (item p q ls i) m

    args_wait : {R : Tree} {y : Wire} {a : Level} {k l : ℕ} → Spine R y a k → Heads false b R l → Each R →
        (ss : List Subterm) → AllWait F l ss → AllWait F b (arguments p q ls 0 k ++ ss)
    args_wait head_var of_var f ss w = w
    args_wait head_free of_free f ss w = w
    args_wait (head_app {P = P} {j = k} s e) (of_app {k = l} {m = m} g x) f ss w =
        subst (AllWait F b) (last_one p q ls k ss)
        (args_wait s g (λ i P k. f i P (earlier s k)) (item p q ls k ∷ ss) (more (f k P (last s) l m g x) w))

    all_args_wait : {u : Tree} {x : Place} {a : Level} {k l : ℕ} → Normal u x a k → Heads false b u l → Each u →
        (ss : List Subterm) → AllWait F l ss → AllWait F b (arguments p q ls 0 k ++ ss)
    all_args_wait (flat s) g f ss w = args_wait s g f ss w
    all_args_wait (layer n e) (of_lam g) f ss w = all_args_wait n g (λ i P k. f i P (inner k)) ss w

    module _ (r : ℕ) (X : Context) where
      args_past : {R : Tree} {y : Wire} {a : Level} {k l : ℕ} → Spine R y a k → Heads false b R l → Each R →
          (ss : List Subterm) → In r X F l ss → In r X F b (arguments p q ls 0 k ++ ss)
      args_past head_var of_var f ss w = w
      args_past head_free of_free f ss w = w
      args_past (head_app {P = P} {j = k} s e) (of_app {k = l} {m = m} g x) f ss w =
          subst (In r X F b) (last_one p q ls k ss)
          (args_past s g (λ i P k. f i P (earlier s k)) (item p q ls k ∷ ss) (there (f k P (last s) l m g x) w))

      all_args_past : {u : Tree} {x : Place} {a : Level} {k l : ℕ} → Normal u x a k → Heads false b u l → Each u →
          (ss : List Subterm) → In r X F l ss → In r X F b (arguments p q ls 0 k ++ ss)
      all_args_past (flat s) g f ss w = args_past s g f ss w
      all_args_past (layer n e) (of_lam g) f ss w = all_args_past n g (λ i P k. f i P (inner k)) ss w

      -- an argument's question, behind those of the arguments before it
      arg_in : {R Q : Tree} {y : Wire} {a : Level} {k l i : ℕ} (j : ℕ) → Spine R y a k → Heads false b R l → Each R →
          (g : Arg R i Q) → Before b g j → ((ss : List Subterm) → In r X F j (item p q ls i ∷ ss)) →
          (ss : List Subterm) → In r X F b (arguments p q ls 0 k ++ ss)
      arg_in j head_var x f g o z ss = elim g [ ]
      arg_in j head_free x f g o z ss = elim g [ ]
      arg_in j (head_app {P = P} {j = k} s e) (of_app g x) f (last {i = i} s') o z ss =
          subst (In r X F b) (last_one p q ls k ss)
          (args_past s o (λ i P k. f i P (earlier s k)) (item p q ls k ∷ ss)
          (subst (λ i. In r X F j (item p q ls i ∷ ss)) (one_count s' s) (z ss)))
      arg_in j (head_app {j = k} s e) (of_app g x) f (earlier s' w) o z ss =
          subst (In r X F b) (last_one p q ls k ss)
          (arg_in j s g (λ i P k. f i P (earlier s k)) w o z (item p q ls k ∷ ss))

      any_arg_in : {u Q : Tree} {x : Place} {a : Level} {k l i : ℕ} (j : ℕ) → Normal u x a k → Heads false b u l →
          Each u → (g : Arg u i Q) → Before b g j → ((ss : List Subterm) → In r X F j (item p q ls i ∷ ss)) →
          (ss : List Subterm) → In r X F b (arguments p q ls 0 k ++ ss)
      any_arg_in j (flat s) h f g o z ss = arg_in j s h f g o z ss
      any_arg_in j (layer n e) (of_lam h) f (inner g) o z ss =
          any_arg_in j n h (λ i P k. f i P (inner k)) g o z ss

  -- ---- a head that is found

  whole_waits : (m : ℕ) → Heads true many t m → Waits [] many whole_term m
  whole_waits m g = record {
    part = t;
    chain = [];
    seats = WholeSeats;
    seen = term_seen τ t names h;
    is_chain = refl;
    leads = λ x v c q X a i s. subst (λ (X : Context). (b : Asks τ t (place q) (X 0) (tail X))
        × IsAt many t (place q) (X 0) (tail X) b) (sym s.1)
        (subst (λ x. (b : Asks τ t x v c) × IsAt many t x v c b) s.0 (a, i));
    heads = g;
  }

  form_heads : {P l : Tree} {b m j e : ℕ} {q : Place} {a : Level} → Heads true (suc b) P m → Steps P l j →
      Normal l q a e → Heads false b l m
  form_heads {b = b} {m = m} (is_asked s k h) r n = subst (λ u. Heads false b u m) (same_form s r k n) h

  module _ (F : List Frame) (s : Subterm) (n k : ℕ) (v : HeadVar) (ls : List Level) (b m : ℕ)
      (w : Waits F (suc b) s m) (p : ℕ) (Y : Context)
      (e : Exit τ N w.chain F s w.part w.seats n p Y)
      (one : head n v k ls ≡ head n e.says.says.variable e.args e.says.first) where
    abbrev after : List Frame
    after = F ++ framed s n ∷ []

    each : Each (length F) (port_of after v) ls after b e.last
    each i Q arg l j o g =
        let ev : v ≡ e.says.says.variable = cc in
        let el : ls ≡ e.says.first = cc in
        let f = framed s n in
        let c = length_push F f in
        let port : port_of (F ++ f ∷ []) v ≡ p = ap (port_of (F ++ f ∷ [])) ev
        ∙ port_of_stays F f (framed s 0) e.says.says.variable refl ∙ e.says.says.port in
        let below : IsChain (F ++ f ∷ []) (length (F ++ f ∷ [])) (Some (length F)) ((length F, f) ∷ w.chain) = (
          refl,
          (omega arith),
          (omega arith),
          frame_last F f,
          chain_grows F f (length F) s.parent w.chain w.is_chain,
        ) in
        record {
          part = Q;
          chain = (length F, f) ∷ w.chain;
          seats = ArgSeats τ e.leads arg w.seats;
          seen = subst (λ ls. IsSeen τ N ((length F, f) ∷ w.chain) (port_of (F ++ f ∷ []) v)
              (ls ++ os i (star empty) ∷ []) Q (ArgSeats τ e.leads arg w.seats)) (sym el)
              (subst (λ q. IsSeen τ N ((length F, f) ∷ w.chain) q
              (e.says.first ++ os i (star empty) ∷ []) Q (ArgSeats τ e.leads arg w.seats)) (sym port)
              (arg_seen w.seen e.leads arg (length F) f refl refl e.lams e.place e.inner e.level e.args
              e.normal e.same p e.says.first e.says.stands));
          is_chain = below;
          leads = λ x v c q X a i z. w.leads z.0 z.4 z.2 q X (part z.1 e.leads arg a z.3 z.5) (b, refl, l, o, i) z.6;
          heads = g;
        }

    next_waits : (ss : List Subterm) → AllWait F m ss →
        AllWait after b (arguments (length F) (port_of after v) ls 0 k ++ ss)
    next_waits ss ws =
        let ek : k ≡ e.args = cc in
        subst (λ k. AllWait after b (arguments (length F) (port_of after v) ls 0 k ++ ss)) (sym ek)
        (all_args_wait (length F) (port_of after v) ls after b e.normal (form_heads w.heads e.leads e.normal) each ss
        (wait_on (framed s n) ws))

    next_later : (q : ℕ) (X : Context) (ss : List Subterm) → In q X F m ss →
        In q X after b (arguments (length F) (port_of after v) ls 0 k ++ ss)
    next_later q X ss i =
        let ek : k ≡ e.args = cc in
        subst (λ k. In q X after b (arguments (length F) (port_of after v) ls 0 k ++ ss)) (sym ek)
        (all_args_past (length F) (port_of after v) ls after b q X e.normal (form_heads w.heads e.leads e.normal) each ss
        (in_later (framed s n) i))

    -- what is asked of one of its arguments
    of_argument : (q : ℕ) (X : Context) (j i : ℕ) (Q : Tree) (arg : Arg e.last i Q) → Before b arg j →
        (x y : Place) (a c c' : Level) (d d' : Context) (g : Asks τ Q x a d) → IsAt j Q x a d g → Close τ Q x a d g →
        StandsAt τ arg empty x a d y c' d' → SameAlong τ e.leads y c c' → w.seats y c d' q X → (ss : List Subterm) →
        In q X after b (arguments (length F) (port_of after v) ls 0 k ++ ss)
    unfolding each
    of_argument q X j i Q arg o x y a c c' d d' g at z st al seat ss =
        let hd = arg_heads j (form_heads w.heads e.leads e.normal) arg o in
        let ek : k ≡ e.args = cc in
        subst (λ k. In q X after b (arguments (length F) (port_of after v) ls 0 k ++ ss)) (sym ek)
        (any_arg_in (length F) (port_of after v) ls after b q X j e.normal (form_heads w.heads e.leads e.normal) each arg o
        (λ ss. here (each i Q arg j hd.0 o hd.1) (record {
          place = x;
          level = a;
          rest = d;
          asks = g;
          is_at = at;
          close = z;
          seat = (y, c', d', st, c, al, seat);
        })) ss)

  -- ---- a question of the subterm that is asked

  abbrev AtLeast : ℕ → (P : Tree) (x : Place) (v : Level) (c : Context) → Asks τ P x v c → Type 0
  AtLeast n P x v c (whole m e) = n ≤ m
  AtLeast n P x v c (part b s k a g f) = Unit {0}

  none_less : (P : Tree) (x : Place) (v : Level) (c : Context) (a : Asks τ P x v c) → AtLeast 0 P x v c a
  none_less P x v c (whole m e) = omega arith
  none_less P x v c (part b s k a g f) = tt

  data Open (q : ℕ) (X : Context) (F : List Frame) : ℕ → List Subterm → ℕ → Type 1 where
    first : {n m l : ℕ} {s : Subterm} {ss : List Subterm} (w : Waits F n s m) (k : Sought n w.part w.seats q X) →
        AtLeast l w.part k.place k.level k.rest k.asks → Open q X F n (s ∷ ss) l
    later : {n m l : ℕ} {s : Subterm} {ss : List Subterm} → Waits F n s m → In q X F m ss → Open q X F n (s ∷ ss) l

  open_of : {q : ℕ} {X : Context} {F : List Frame} {n : ℕ} {ss : List Subterm} → In q X F n ss → Open q X F n ss 0
  open_of (here w k) = first w k (none_less w.part k.place k.level k.rest k.asks)
  open_of (there w i) = later w i

  in_of : {q : ℕ} {X : Context} {F : List Frame} {n l : ℕ} {ss : List Subterm} → Open q X F n ss l → In q X F n ss
  in_of (first w k low) = here w k
  in_of (later w i) = there w i

  -- where the root of the first subterm is asked for n abstractions
  at_question : (F : List Frame) (s : Subterm) (b l : ℕ) (w : Waits F b s l) (q : ℕ) (X : Context) (n m : ℕ) (v : Level)
      (c : Context) → w.seats root v c q X → v ≡ os m empty → c ≡ levels [] → m ≡ n →
      (q ≡ s.port) × (X ≡ asked s.levels n)
  at_question F s b l w q X n m v c seat f g i =
      let r = w.seen.one root root v (os n empty) c (levels []) q s.port X
      (ahead s.levels (cons (os n empty) (levels []))) seat (w.seen.at_root (os n empty) (levels [])) in
      let z = r.0 (spot_is root root v (os n empty) c (levels []) refl (f ∙ ap (λ n. os n empty) i) g) in
      (z.0, z.1 ∙ sym (asked_is s.levels n))

  -- a turn's question is this one, or it still waits
  data Either (A : Type 0) (B : Type 1) : Type 1 where
    now : A → Either A B
    still : B → Either A B

  more_asked : (F : List Frame) (s : Subterm) (ss : List Subterm) (b n q : ℕ) (X : Context) → Open q X F b (s ∷ ss) n →
      Either ((q ≡ s.port) × (X ≡ asked s.levels n)) (Open q X F b (s ∷ ss) (suc n))
  more_asked F s ss b n q X (later w i) = still (later w i)
  more_asked F s ss b n q X (first {m = l} w k low) =
      by w k.place k.level k.rest k.asks k.is_at k.close k.seat low
    where
      by : (w : Waits F b s l) (x : Place) (v : Level) (c : Context) (a : Asks τ w.part x v c) →
          IsAt b w.part x v c a → Close τ w.part x v c a →
          w.seats x v c q X → AtLeast n w.part x v c a →
          Either ((q ≡ s.port) × (X ≡ asked s.levels n)) (Open q X F b (s ∷ ss) (suc n))
      by w x v c (part b s k a g f) i z seat low = still (first w (record {
        place = x;
        level = v;
        rest = c;
        asks = part b s k a g f;
        is_at = i;
        close = z;
        seat = seat;
      }) tt)
      by w x v c (whole m e) i z seat low = elim (least_or (suc n) m) [
        | inl less ↦ now (at_question F s b l w q X n m v c seat e z.0 (omega arith))
        | inr most ↦ still (first w (record {
          place = x;
          level = v;
          rest = c;
          asks = whole m e;
          is_at = i;
          close = z;
          seat = seat;
        }) most)
      ]

  -- what is asked of the subterm whose head was found
  of_first : (F : List Frame) (s : Subterm) (ss : List Subterm) (n k : ℕ) (v : HeadVar) (ls : List Level) (b m : ℕ)
      (w : Waits F (suc b) s m) (p : ℕ) (Y : Context)
      (e : Exit τ N w.chain F s w.part w.seats n p Y)
      (one : head n v k ls ≡ head n e.says.says.variable e.args e.says.first) (q : ℕ) (X : Context) (x : Place)
      (a : Level) (c : Context) (g : Asks τ w.part x a c) → IsAt (suc b) w.part x a c g →
      Close τ w.part x a c g → w.seats x a c q X → AtLeast n w.part x a c g →
      Either ((q ≡ s.port) × (X ≡ asked s.levels n)) (Open q X (F ++ framed s n ∷ []) b
      (arguments (length F) (port_of (F ++ framed s n ∷ []) v) ls 0 k ++ ss) 0)
  of_first F s ss n k v ls b m w p Y e one q X x a c (whole l o) i z seat low =
      let few = rest_of z.3 e.leads e.normal in
      let g = z.4 in
      let j = e.lams in
      now (at_question F s (suc b) m w q X n l a c seat o z.0 (omega arith))
  of_first F s ss n k v ls b m w p Y e one q X y a d (part {Q = Q} {i = i} {x = x} {v = u} {c = c} b' s' k' g st al)
      (j, q', l, o, at) z seat low =
      let r = carried τ s' k' e.leads e.normal in
      let f : j ≡ b = cc in
      still (open_of (of_argument F s n k v ls b m w p Y e one q X l i Q r.arg
      (subst (λ b. Before b r.arg l) f (r.before j l o)) x y u a b' c d g at z
      (r.stands x y u b' c d st) (r.same y a b' al) seat ss))

  -- a place that is asked and has a head isn't lost
  never_lost : (F : List Frame) (s : Subterm) (b m : ℕ) → Waits F (suc b) s m →
      IsHead N (F ++ framed s 0 ∷ []) (length F) no_head → ⊥
  never_lost F s b m w x = go w.heads
    where
      go : Heads true (suc b) w.part m → ⊥
      go (is_asked {u = u} r k g) =
          comes_to_none w.part u (no_head_is F s w.seen w.is_chain x) (reduces r) (normal_is k)

  -- the head of a place that is asked
  record HeadOf (F : List Frame) (s : Subterm) (n k : ℕ) (v : HeadVar) (ls : List Level) (b m : ℕ)
      (w : Waits F (suc b) s m) : Type 0 where
    port : ℕ
    context : Context
    exit : Exit τ N w.chain F s w.part w.seats n port context
    one : head n v k ls ≡ head n exit.says.says.variable exit.args exit.says.first

  head_of : (F : List Frame) (s : Subterm) (n k : ℕ) (v : HeadVar) (ls : List Level) (b m : ℕ)
      (w : Waits F (suc b) s m) → IsHead N (F ++ framed s 0 ∷ []) (length F) (head n v k ls) →
      HeadOf F s n k v ls b m w
  head_of F s n k v ls b m w x =
      let r = is_head_of x in
      let e = exit_of F s w.seen w.is_chain n r.port r.context r.few r.path in
      record {
        port = r.port;
        context = r.context;
        exit = e;
        one = exit_is_one (F ++ framed s 0 ∷ []) (length F) n r.port r.context (head n v k ls)
            (head n e.says.says.variable e.args e.says.first) (matched r.match)
            (matched (exit_matches F s w.seen w.is_chain n r.port r.context e));
      }

  -- ---- turns

  -- what waits, and how many heads are left to be asked
  record State (a : Asking) : Type 1 where
    left : ℕ
    sum : left + length a.frames ≡ many
    waits : AllWait a.frames left a.waiting

  -- the question waits
  record Opened (q : ℕ) (X : Context) (a : Asking) : Type 1 where
    left : ℕ
    sum : left + length a.frames ≡ many
    open_in : Open q X a.frames left a.waiting a.lams

  unmatched_budget : {F : List Frame} {i n q : ℕ} {X : Context} {a : Answer} → IsMatched F i n q X a →
      a ≡ heads.budget → ⊥
  unmatched_budget (heads.matched x) e = absurd (cc)
  unmatched_budget (heads.unmatched x) e = absurd (cc)

  module _ (R M : NamedNet NodeName) (is_net : IsNet M) (L : IsLevelled M) (paths : HaveSamePaths R M)
      (same : HaveSamePaths N R) where
    module _ (F : List Frame) (s : Subterm) (ss : List Subterm) (n : ℕ) (y : Tried R (asks F (s ∷ ss) n)) where
      to_source : (a : Answer) → IsHead R (F ++ framed s 0 ∷ []) (length F) a →
          IsHead N (F ++ framed s 0 ∷ []) (length F) a
      to_source a i = heads_are_kept R N (λ p c q X. ((same p c q X).1, (same p c q X).0))
          (F ++ framed s 0 ∷ []) (length F) a i

      is_left : {q : ℕ} {X : Context} {a : Answer} → IsMatched (F ++ framed s 0 ∷ []) (length F) n q X a →
          Ends M s.port (asked s.levels n) (chain.left q X) → IsHead R (F ++ framed s 0 ∷ []) (length F) a
      is_left {q = q} {X = X} m h =
          let z = frame_last F (framed s 0) in
          heads.leaves {n = n} {q = q} {X = X}
          (λ m b. subst (λ (f : Frame). NoPath R f.port (asked f.levels m)) (sym z) (y s ss refl m b))
          (subst (λ (f : Frame). Path R (free f.port) (asked f.levels n) q X) (sym z)
          ((paths s.port (asked s.levels n) q X).1 (path_at M is_net s.port (asked s.levels n) q X h))) m

      is_head : {end : chain.End NodeName} {a : Answer} {n' k : ℕ} {v : HeadVar} {ls : List Level} →
          IsFound M F s n end a → a ≡ head n' v k ls → Ends M s.port (asked s.levels n) end →
          IsHead R (F ++ framed s 0 ∷ []) (length F) a
      is_head (exits m) e h = is_left m h
      is_head (lost b) e h = absurd (cc)
      is_head spent e h = absurd (cc)

      -- the chain leaves, and the head has the abstractions that were asked for
      record Leaves (end : chain.End NodeName) (n' : ℕ) : Type 0 where
        port : ℕ
        context : Context
        is : end ≡ chain.left port context
        lams : n' ≡ n

      has_left : {end : chain.End NodeName} {a : Answer} {n' k : ℕ} {v : HeadVar} {ls : List Level} →
          IsFound M F s n end a → a ≡ head n' v k ls → Leaves end n'
      has_left {n' = n'} (exits {q = q} {X = X} (heads.matched m)) e = record {
        port = q;
        context = X;
        is = refl;
        lams = (let f : n ≡ n' = cc in sym f);
      }
      has_left (exits (heads.unmatched m)) e = absurd (cc)
      has_left (lost b) e = absurd (cc)
      has_left spent e = absurd (cc)

      -- no head, also where the crossings of a chain were used up
      no_path : ((m : ℕ) → n ≤ m → NoPath M s.port (asked s.levels m)) →
          IsHead R (F ++ framed s 0 ∷ []) (length F) no_head
      no_path f =
          let z = frame_last F (framed s 0) in
          heads.never (λ m. subst (λ (f : Frame). NoPath R f.port (asked f.levels m)) (sym z) (none m (cases_lt m n)))
        where
          none : (m : ℕ) → (m < n) ⊎ (n ≤ m) → NoPath R s.port (asked s.levels m)
          none m (inl c) = y s ss refl m c
          none m (inr c) = λ q X r. f m c q X ((paths s.port (asked s.levels m) q X).0 r)

      is_lost : {end : chain.End NodeName} {a : Answer} → IsFound M F s n end a →
          Ends M s.port (asked s.levels n) end → (a ≡ no_head) ⊎ (a ≡ heads.budget) →
          IsHead R (F ++ framed s 0 ∷ []) (length F) no_head
      is_lost (lost b) h e = no_path (λ m c. lost_is_lost M is_net L s.port s.levels n b h m c)
      is_lost spent h e = no_path (λ m c. spent_is_lost M is_net L s.port s.levels n h m c)
      is_lost (exits {a = a} m) h (inl e) = subst (IsHead R (F ++ framed s 0 ∷ []) (length F)) e (is_left m h)
      is_lost (exits m) h (inr e) = absurd (unmatched_budget m e)

      is_found : (b m : ℕ) → Waits F (suc b) s m → {end : chain.End NodeName} (a : Answer) → IsFound M F s n end a →
          Ends M s.port (asked s.levels n) end → (a ≡ no_head) ⊎ (a ≡ heads.budget) → ⊥
      is_found b m w a f h e = never_lost F s b m w (to_source no_head (is_lost f h e))

    -- ---- what waits after a turn

    one_less : (F : List Frame) (f : Frame) (b : ℕ) → suc b + length F ≡ many → b + length (F ++ f ∷ []) ≡ many
    one_less F f b e = let l = length_push F f in omega (arith, e, l)

    module _ (F : List Frame) (s : Subterm) (ss : List Subterm) (n : ℕ) (y : Tried R (asks F (s ∷ ss) n))
        (below : length F < many) where
      next_state : {end : chain.End NodeName} (a : Answer) → IsFound M F s n end a →
          Ends M s.port (asked s.levels n) end → State (asks F (s ∷ ss) n) → State (next F s ss a)
      next_state {end} a f g z = by z.left z.sum z.waits a f
        where
          head_by : (b m : ℕ) (w : Waits F (suc b) s m) → suc b + length F ≡ many → AllWait F m ss →
              (n' k : ℕ) (v : HeadVar) (ls : List Level) → HeadOf F s n' k v ls b m w →
              State (next F s ss (head n' v k ls))
          head_by b m w e ws n' k v ls x = record {
            left = b;
            sum = one_less F (framed s n') b e;
            waits = next_waits F s n' k v ls b m w x.port x.context x.exit x.one ss ws;
          }

          by : (l : ℕ) → l + length F ≡ many → AllWait F l (s ∷ ss) → (a : Answer) →
              IsFound M F s n end a → State (next F s ss a)
          by zero e ws a f = absurd (omega (arith, e, below))
          by (suc b) e (more {m = m} w ws) (head n' v k ls) f =
              head_by b m w e ws n' k v ls (head_of F s n' k v ls b m w
              (to_source F s ss n y (head n' v k ls) (is_head F s ss n y f refl g)))
          by (suc b) e (more {m = m} w ws) no_head f =
              absurd (is_found F s ss n y b m w no_head f g (inl refl))
          by (suc b) e (more {m = m} w ws) heads.budget f =
              absurd (is_found F s ss n y b m w heads.budget f g (inr refl))

    turn_state : {ticket : ℕ} {es : List Entry} {ns : List ReadNode} {P : NamedNet NodeName} {a b : Asking} →
        Turn many M ticket a es ns P b → Tried R a → State a → State b
    turn_state (rewrites m) y z = z
    turn_state (one_more h l) y z = record { left = z.left; sum = z.sum; waits = z.waits }
    turn_state (finds {F = F} {s = s} {ss = ss} {n = n} {a = c} h f) y z =
        next_state F s ss n y h.below c f h.ends z

    turn_tried : {ticket : ℕ} {es : List Entry} {ns : List ReadNode} {P : NamedNet NodeName} {a b : Asking} →
        Turn many M ticket a es ns P b → Tried R a → Tried R b
    turn_tried (rewrites m) y = y
    turn_tried (one_more {F = F} {s = s} {ss = ss} {n = n} h l) y = tried_more R M is_net paths F s ss n h.ends y
    turn_tried (finds {F = F} {s = s} {ss = ss} {n = n} {a = c} h f) y = tried_none R F s ss c

    -- ---- and where the question is

    abbrev Asked : Subterm → ℕ → ℕ → Context → Type 0
    Asked s n q X = (q ≡ s.port) × (X ≡ asked s.levels n) × MeetsNone M q X

    module _ (F : List Frame) (s : Subterm) (ss : List Subterm) (n : ℕ) (y : Tried R (asks F (s ∷ ss) n))
        (below : length F < many) (q : ℕ) (X : Context) where
      next_open : {end : chain.End NodeName} (a : Answer) → IsFound M F s n end a →
          Ends M s.port (asked s.levels n) end → Opened q X (asks F (s ∷ ss) n) →
          Either (Asked s n q X) (Opened q X (next F s ss a))
      next_open {end} a f g z = by z.left z.sum z.open_in a f
        where
          -- the chain of this question left
          this : (n' : ℕ) → Leaves F s ss n y end n' → (q ≡ s.port) × (X ≡ asked s.levels n') → Asked s n q X
          this n' l e =
              let i : X ≡ asked s.levels n = e.1 ∙ ap (asked s.levels) l.lams in (
                e.0,
                i,
                subst (λ q. MeetsNone M q X) (sym e.0) (subst (λ X. MeetsNone M s.port X) (sym i)
                    (inl (l.port, l.context, subst (λ e. Ends M s.port (asked s.levels n) e) l.is g))),
              )

          or_next : (b n' k : ℕ) (v : HeadVar) (ls : List Level) → suc b + length F ≡ many → Leaves F s ss n y end n' →
              Either ((q ≡ s.port) × (X ≡ asked s.levels n')) (Open q X (F ++ framed s n' ∷ []) b
              (arguments (length F) (port_of (F ++ framed s n' ∷ []) v) ls 0 k ++ ss) 0) →
              Either (Asked s n q X) (Opened q X (next F s ss (head n' v k ls)))
          or_next b n' k v ls e l (now i) = now (this n' l i)
          or_next b n' k v ls e l (still o) = still (record {
            left = b;
            sum = one_less F (framed s n') b e;
            open_in = o;
          })

          first_by : (b m : ℕ) (w : Waits F (suc b) s m) → suc b + length F ≡ many →
              (k : Sought (suc b) w.part w.seats q X) → AtLeast n w.part k.place k.level k.rest k.asks →
              (n' j : ℕ) (v : HeadVar) (ls : List Level) → Leaves F s ss n y end n' → HeadOf F s n' j v ls b m w →
              Either (Asked s n q X) (Opened q X (next F s ss (head n' v j ls)))
          first_by b m w e k low n' j v ls l x =
              or_next b n' j v ls e l (of_first F s ss n' j v ls b m w x.port x.context x.exit x.one q X k.place k.level
              k.rest k.asks k.is_at k.close k.seat
              (subst (λ n. AtLeast n w.part k.place k.level k.rest k.asks) (sym l.lams) low))

          later_by : (b m : ℕ) (w : Waits F (suc b) s m) → suc b + length F ≡ many → In q X F m ss →
              (n' j : ℕ) (v : HeadVar) (ls : List Level) → HeadOf F s n' j v ls b m w →
              Opened q X (next F s ss (head n' v j ls))
          later_by b m w e i n' j v ls x = record {
            left = b;
            sum = one_less F (framed s n') b e;
            open_in = open_of (next_later F s n' j v ls b m w x.port x.context x.exit x.one q X ss i);
          }

          by : (l : ℕ) → l + length F ≡ many → Open q X F l (s ∷ ss) n → (a : Answer) →
              IsFound M F s n end a → Either (Asked s n q X) (Opened q X (next F s ss a))
          by zero e o a f = absurd (omega (arith, e, below))
          by (suc b) e (first {m = m} w k low) (head n' v j ls) f =
              first_by b m w e k low n' j v ls (has_left F s ss n y f refl) (head_of F s n' j v ls b m w
              (to_source F s ss n y (head n' v j ls) (is_head F s ss n y f refl g)))
          by (suc b) e (later {m = m} w i) (head n' v j ls) f =
              still (later_by b m w e i n' j v ls (head_of F s n' j v ls b m w
              (to_source F s ss n y (head n' v j ls) (is_head F s ss n y f refl g))))
          by (suc b) e (first {m = m} w k low) no_head f =
              absurd (is_found F s ss n y b m w no_head f g (inl refl))
          by (suc b) e (first {m = m} w k low) heads.budget f =
              absurd (is_found F s ss n y b m w heads.budget f g (inr refl))
          by (suc b) e (later {m = m} w i) no_head f =
              absurd (is_found F s ss n y b m w no_head f g (inl refl))
          by (suc b) e (later {m = m} w i) heads.budget f =
              absurd (is_found F s ss n y b m w heads.budget f g (inr refl))

    turn_goes : {ticket : ℕ} {es : List Entry} {ns : List ReadNode} {P : NamedNet NodeName} {a b : Asking}
        (u : Turn many M ticket a es ns P b) → Tried R a → (q : ℕ) (X : Context) →
        Opened q X a → Either (AnswersNow u q X) (Opened q X b)
    turn_goes (rewrites m) y q X o = still o
    turn_goes (one_more {F = F} {s = s} {ss = ss} {n = n} h l) y q X o =
        by (more_asked F s ss o.left n q X o.open_in)
      where
        by : Either ((q ≡ s.port) × (X ≡ asked s.levels n)) (Open q X F o.left (s ∷ ss) (suc n)) →
            Either ((q ≡ s.port) × (X ≡ asked s.levels n)) (Opened q X (asks F (s ∷ ss) (suc n)))
        by (now e) = now e
        by (still i) = still (record { left = o.left; sum = o.sum; open_in = i })
    turn_goes (finds {F = F} {s = s} {ss = ss} {n = n} {a = c} h f) y q X o =
        next_open F s ss n y h.below q X c f h.ends o

  -- ---- a run

  module _ (R : NamedNet NodeName) (start : IsStart R) (L : IsLevelled R) (same : HaveSamePaths N R) (m : ℕ)
      (g : Heads true many t m) where
    run_state : {M : NamedNet NodeName} {turns : ℕ} {journal : List Entry} {places : List ReadNode} {a : Asking} →
        Turns R many turns journal places M a → State a × Tried R a
    run_state begins = (
      record { left = many; sum = (let e : many + 0 ≡ many = omega arith in e); waits = more (whole_waits m g) none },
      λ t ts e m b. absurd (omega arith),
    )
    run_state (and_then {journal = journal} {M = M} r u) =
        let k = turns_kept start r in
        let L' = run_keeps R M 0 journal start.net start.named k.run L in
        let x = run_state r in
        (turn_state R M k.net L' k.paths same u x.1 x.0, turn_tried R M k.net L' k.paths same u x.1)

    -- its questions are after the first places
    pub question_at : (p : ℕ) (c : Context) → IsQuestion R many p c →
        (a : Asks τ t (place p) (c 0) (tail c)) × IsAt many t (place p) (c 0) (tail c) a
    question_at p c q = by (run_state q.made).0.left (run_state q.made).0.sum (run_state q.made).0.waits
      where
        by : (l : ℕ) → l + length q.frames ≡ many → AllWait q.frames l (q.subterm ∷ q.later) →
            (a : Asks τ t (place p) (c 0) (tail c)) × IsAt many t (place p) (c 0) (tail c) a
        by zero e ws = let b = q.below in absurd (omega (arith, e, b))
        by (suc b) e (more w ws) =
            let X = ahead q.subterm.levels (cons (os q.lams empty) (levels [])) in
            let a = w.leads root (os q.lams empty) (levels []) q.subterm.port X (whole q.lams refl) (b, refl)
            (w.seen.at_root (os q.lams empty) (levels [])) in
            subst (λ p. (a : Asks τ t (place p) (c 0) (tail c)) × IsAt many t (place p) (c 0) (tail c) a) (sym q.port_is)
            (subst (λ (c : Context). (a : Asks τ t (place q.subterm.port) (c 0) (tail c))
            × IsAt many t (place q.subterm.port) (c 0) (tail c) a)
            (sym (q.context_is ∙ asked_is q.subterm.levels q.lams)) a)

    -- each place that was asked has a head
    turn_heads : {M P : NamedNet NodeName} {turns : ℕ} {journal es : List Entry} {places ns : List ReadNode}
        {a b : Asking} → Turns R many turns journal places M a → Turn many M (length journal) a es ns P b → HasAllHeads ns
    turn_heads r (rewrites f) = tt
    turn_heads r (one_more e l) = tt
    turn_heads {M = M} {journal = journal} r (finds {F = F} {s = s} {ss = ss} {n = n} {end = end} {a = c} e f) =
        let k = turns_kept start r in
        let L' = run_keeps R M 0 journal start.net start.named k.run L in
        let x = run_state r in
        by k.net L' k.paths x.1 x.0.left x.0.sum x.0.waits c f
      where
        by : IsNet M → IsLevelled M → HaveSamePaths R M → Tried R (asks F (s ∷ ss) n) → (l : ℕ) →
            l + length F ≡ many → AllWait F l (s ∷ ss) → (c : Answer) → IsFound M F s n end c →
            HasAllHeads (place_of c ∷ [])
        by net L' paths y l z ws (head n' v k ls) f = tt
        by net L' paths y zero z ws no_head f = let b = e.below in absurd (omega (arith, z, b))
        by net L' paths y zero z ws heads.budget f = let b = e.below in absurd (omega (arith, z, b))
        by net L' paths y (suc b) z (more {m = j} w ws) no_head f =
            absurd (is_found R M net L' paths same F s ss n y b j w no_head f e.ends (inl refl))
        by net L' paths y (suc b) z (more {m = j} w ws) heads.budget f =
            absurd (is_found R M net L' paths same F s ss n y b j w heads.budget f e.ends (inr refl))

    pub run_heads : {M : NamedNet NodeName} {turns : ℕ} {journal : List Entry} {places : List ReadNode} {a : Asking} →
        Turns R many turns journal places M a → HasAllHeads places
    run_heads begins = tt
    run_heads (and_then {places = ps} {ns = ns} r u) = heads_append ps ns (run_heads r) (turn_heads r u)

    run_goes : {M : NamedNet NodeName} {turns : ℕ} {journal : List Entry} {places : List ReadNode} {a : Asking}
        (r : Turns R many turns journal places M a) (q : ℕ) (X : Context) → Sought many t WholeSeats q X →
        Either (IsAnswered r q X) (Opened q X a)
    unfolding whole_waits
    run_goes begins q X z = still (record {
      left = many;
      sum = (let e : many + 0 ≡ many = omega arith in e);
      open_in = first (whole_waits m g) z (none_less t z.place z.level z.rest z.asks);
    })
    run_goes (and_then {journal = journal} {M = M} {a = a} {b = b} r u) q X z =
        let k = turns_kept start r in
        let L' = run_keeps R M 0 journal start.net start.named k.run L in
        by (run_goes r q X z) (λ o. turn_goes R M k.net L' k.paths same u (run_state r).1 q X o)
      where
        by : Either (IsAnswered r q X) (Opened q X a) → (Opened q X a → Either (AnswersNow u q X) (Opened q X b)) →
            Either (IsAnswered (and_then r u) q X) (Opened q X b)
        by (now e) f = now (inl e)
        by (still o) f = go (f o)
          where
            go : Either (AnswersNow u q X) (Opened q X b) → Either (IsAnswered (and_then r u) q X) (Opened q X b)
            go (now e) = now (inr e)
            go (still o) = still o

    -- each question after one of the first places is answered, that is close and begins at a port
    pub is_answered : {M : NamedNet NodeName} {turns : ℕ} {journal : List Entry} {places : List ReadNode} {a : Asking}
        (r : Turns R many turns journal places M a) → (a.waiting ≡ []) ⊎ (many ≤ length a.frames) →
        (y : Place) (v : Level) (c : Context) (k : Asks τ t y v c) → IsAt many t y v c k → Close τ t y v c k →
        Reached τ t y v →
        (q : ℕ) × (y ≡ place q) × IsAnswered r q (cons v c)
    is_answered {a = a} r over y v c k i z f =
        let x = port_of_place τ t names h f in (
          x.0,
          x.1,
          by (run_goes r x.0 (cons v c) (record {
            place = y;
            level = v;
            rest = c;
            asks = k;
            is_at = i;
            close = z;
            seat = (x.1, refl);
          })),
        )
      where
        none_in : {q : ℕ} {X : Context} {F : List Frame} {n : ℕ} → In q X F n [] → ⊥
        none_in i = elim i [ ]

        closed : (q : ℕ) (X : Context) → Opened q X a → (a.waiting ≡ []) ⊎ (many ≤ length a.frames) → ⊥
        closed q X o (inl e) = none_in (subst (λ ss. In q X a.frames o.left ss) e (in_of o.open_in))
        closed q X o (inr e) =
            let s = o.sum in all_past o.left (omega (arith, s, e)) (in_of o.open_in)

        by : {q : ℕ} {X : Context} → Either (IsAnswered r q X) (Opened q X a) → IsAnswered r q X
        by (now e) = e
        by {q} {X} (still o) = absurd (closed q X o over)
