-- Each question of a term's places is answered by a demand run that finds a head at every place.
use Rattle.std.proofs.Common.{◌≡◌, ℕ, zero, suc, ◌+◌, ◌≤◌, ◌<◌, ◌⊎◌, inl, inr, List, [], ◌∷◌, ◌++◌, length, Some, refl}
use Rattle.std.proofs.Common.{sym, ap, ◌∙◌, subst, arith}
use Rattle.std.proofs.lemmas.List.{length_push}
use Rattle.ol_context.specs.Asked.{os, asked}
use Rattle.ol_context.specs.Contexts.{Level, empty, star, Context, cons, levels}
use Rattle.ol_context.specs.Paths.{Path, HaveSamePaths}
use Rattle.ol_law_edges.specs.Edges.{IsIn}
use Rattle.ol_net.specs.Nets.{NamedNet, free, IsNet}
use Rattle.ol_rules.specs.declared.journal.Entry.{Entry}
use Rattle.ol_rules.specs.declared.journal.NodeName.{NodeName}
use Rattle.ol_readback.specs.Frames.{Frame}
use Rattle.ol_readback.specs.Heads.{Answer, head, no_head, matched, unmatched, NoPath, IsHead}
use Rattle.ol_readback.specs.Heads as heads
use Rattle.ol_readback.specs.Matching.{Matches}
use Rattle.ol_readback.specs.ReadTrees.{Subterm, whole_term, framed, port_of, arguments}
use Rattle.ol_readback.specs.Terms.{HasAllHeads}
use Rattle.ol_readback.specs.declared.answers.HeadVar.{HeadVar}
use Rattle.ol_readback.specs.declared.answers.ReadNode.{ReadNode}
use Rattle.ol_readback.specs.declared.answers.ReadNode.TheVariants as node
use Rattle.ol_readback.proofs.Forests.{frame_last}
use Rattle.ol_readback.proofs.Kept.{heads_are_kept}
use Rattle.ol_readback.proofs.One.{exit_is_one}
use Rattle.ol_demand.specs.Chains as chain
use Rattle.ol_demand.specs.Chains.{Ends}
use Rattle.ol_demand.specs.Demands.{Asking, asks, IsFound, exits, lost, spent, Turn, rewrites}
use Rattle.ol_demand.specs.Demands.{one_more, finds, Turns, begins, and_then}
use Rattle.ol_demand.specs.Laws.{IsStart}
use Rattle.ol_demand.proofs.Chains.{path_at}
use Rattle.ol_demand.proofs.SourceHeads.{Tried, tried_more, tried_none}
use Rattle.ol_demand.proofs.Turning.{turns_kept}
use Rattle.ol_law_meaning.specs.Contraction.{Tree, Place, root}
use Rattle.ol_law_meaning.specs.Heads.{outer, Steps, done, step, SameAlong, Normal, Arg, StandsAt}
use Rattle.ol_law_meaning.specs.Seen.{ahead, Chain, IsChain, Seats, IsSeen, WholeSeats, ArgSeats}
use Rattle.ol_law_meaning.proofs.Based.{term_seen}
use Rattle.ol_law_meaning.proofs.Endless.{normal_stops}
use Rattle.ol_law_meaning.proofs.Endless as endless
use Rattle.ol_law_meaning.proofs.Matched.{chain_grows}
use Rattle.ol_law_meaning.proofs.Seats.{root_stands, spot_is}
use Rattle.ol_law_meaning.proofs.Showing.{exit_of, exit_matches, chain_more, asked_is, is_head_of, port_of_stays, Exit}
use Rattle.ol_law_meaning.proofs.Sights.{arg_seen}
use Rattle.ol_law_meaning.proofs.Walking.{outer_along, least_or}
use Rattle.ol_law_optimality.specs.Seen.{AnswersNow, IsAnswered, MeetsNone}
use Rattle.ol_law_meaning.specs.Spots.{place}
use Rattle.ol_term.specs.declared.translations.Translation.{Translation}
use Rattle.ol_translate.specs.Names.{HasNames}
use Rattle.ol_translate.specs.Translation.{translation_of}
use Rattle.ol_law_optimality.proofs.Wanted.{Asks, whole, part, one_step, arg_stops}
use Rattle.ol_law_optimality.proofs.DegreesWanted.{Close, Reached, begun, walked}

-- ---- head steps to a head normal form

-- from a term on the way they lead to it too
pub rest_of : {P u l : Tree} {m j : ℕ} {q : Place} {a : Level} {k : ℕ} → Steps P u m → Steps P l j → Normal l q a k →
    outer u ≤ outer l
rest_of done s n = outer_along s
rest_of (step h s) done n = absurd (normal_stops n h)
rest_of (step {t' = a} h s) (step {t' = b} {u = l} {m = j} g r) n =
    rest_of s (subst (λ b. Steps b l j) (sym (endless.one_step h g)) r) n

module _ (τ : Translation) where
  -- an argument at the end is one of that head normal form
  record Carried {P R u Q l : Tree} {m j i : ℕ} (s : Steps P u m) (k : Arg u i Q) (r : Steps R l j) : Type 0 where
    arg : Arg l i Q
    stands : (x y : Place) (v b : Level) (c d : Context) → StandsAt τ k empty x v c y b d →
        StandsAt τ arg empty x v c y b d
    same : (y : Place) (w b : Level) → SameAlong τ s y w b → SameAlong τ r y w b

  carried : {P u Q l : Tree} {m j i : ℕ} {q : Place} {a : Level} {e : ℕ} (s : Steps P u m) (k : Arg u i Q)
      (r : Steps P l j) → Normal l q a e → Carried s k r
  carried done k done n = record { arg = k; stands = λ x y v b c d h. h; same = λ y w b h. h }
  carried done k (step h r) n = absurd (arg_stops k h)
  carried (step h s) k done n = absurd (normal_stops n h)
  carried {l = l} (step h s) k (step {m = j} g r) n =
      let z = one_step g h in
      let c = subst (λ b. (r : Steps b l j) → Carried s k r) z.is (λ r. carried s k r n) r in
      record {
        arg = c.arg;
        stands = c.stands;
        same = λ y w v f. (f.0, z.same τ y w f.0 f.1, c.same y f.0 v f.2);
      }

-- ---- a question that waits for its subterm

module _ (τ : Translation) (t : Tree) (names : ℕ) (h : HasNames t names) where
  abbrev N : NamedNet ℕ
  N = translation_of τ t names

  -- the subterm is seen in the net
  record Waits (F : List Frame) (s : Subterm) : Type 1 where
    part : Tree
    chain : Chain
    seats : Seats
    seen : IsSeen τ N chain s.port s.levels part seats
    is_chain : IsChain F (length F) s.parent chain

  -- a question of a part that begins at this port of the net
  record Sought (P : Tree) (S : Seats) (q : ℕ) (X : Context) : Type 0 where
    place : Place
    level : Level
    rest : Context
    asks : Asks τ P place level rest
    close : Close τ P place level rest asks
    seat : S place level rest q X

  abbrev AtLeast : ℕ → (P : Tree) (x : Place) (v : Level) (c : Context) → Asks τ P x v c → Type 0
  AtLeast n P x v c (whole m e) = n ≤ m
  AtLeast n P x v c (part b s k a g f) = Unit {0}

  none_less : (P : Tree) (x : Place) (v : Level) (c : Context) (a : Asks τ P x v c) → AtLeast 0 P x v c a
  none_less P x v c (whole m e) = omega arith
  none_less P x v c (part b s k a g f) = tt

  data Open (q : ℕ) (X : Context) (F : List Frame) : List Subterm → ℕ → Type 1 where
    in_first : {s : Subterm} {ss : List Subterm} {n : ℕ} (w : Waits F s) (k : Sought w.part w.seats q X) →
        AtLeast n w.part k.place k.level k.rest k.asks → Open q X F (s ∷ ss) n
    in_later : {s : Subterm} {ss : List Subterm} {n : ℕ} (s' : Subterm) → IsIn s' ss → (w : Waits F s') →
        Sought w.part w.seats q X → Open q X F (s ∷ ss) n

  open_in : (F : List Frame) (ss : List Subterm) (s : Subterm) → IsIn s ss → (w : Waits F s) → (q : ℕ) (X : Context) →
      Sought w.part w.seats q X → Open q X F ss 0
  open_in F [] s i w q X k = absurd i
  open_in F (s' ∷ ss) s i w q X k = by i w k
    where
      by : (s ≡ s') ⊎ IsIn s ss → (w : Waits F s) → Sought w.part w.seats q X → Open q X F (s' ∷ ss) 0
      by (inr i) w k = in_later s i w k
      by (inl e) w k = subst (λ s'. Open q X F (s' ∷ ss) 0) e
          (in_first w k (none_less w.part k.place k.level k.rest k.asks))

  -- where the root of the first subterm is asked for n abstractions
  at_question : (F : List Frame) (s : Subterm) (w : Waits F s) (q : ℕ) (X : Context) (n m : ℕ) (v : Level)
      (c : Context) → w.seats root v c q X → v ≡ os m empty → c ≡ levels [] → m ≡ n →
      (q ≡ s.port) × (X ≡ asked s.levels n)
  at_question F s w q X n m v c seat f g i =
      let r = w.seen.one root root v (os n empty) c (levels []) q s.port X
      (ahead s.levels (cons (os n empty) (levels []))) seat (w.seen.at_root (os n empty) (levels [])) in
      let z = r.0 (spot_is root root v (os n empty) c (levels []) refl (f ∙ ap (λ n. os n empty) i) g) in
      (z.0, z.1 ∙ sym (asked_is s.levels n))

  -- ---- the arguments of a head

  in_arguments : (p q : ℕ) (ls : List Level) (ss : List Subterm) (j k m n : ℕ) → m < k → n ≡ j + m →
      IsIn (record { port = q; levels = ls ++ os n (star empty) ∷ []; parent = Some p }) (arguments p q ls j k ++ ss)
  in_arguments p q ls ss j zero m n l e = absurd (omega arith)
  in_arguments p q ls ss j (suc k) zero n l e = inl (ap (λ n. record {
    port = q;
    levels = ls ++ os n (star empty) ∷ [];
    parent = Some p;
  }) (let f : n ≡ j = omega arith in f))
  in_arguments p q ls ss j (suc k) (suc m) n l e = inr (in_arguments p q ls ss (suc j) k m n (omega arith) (omega arith))

  in_others : (s : Subterm) (rs ss : List Subterm) → IsIn s ss → IsIn s (rs ++ ss)
  in_others s [] ss i = i
  in_others s (r ∷ rs) ss i = inr (in_others s rs ss i)

  -- ---- a turn

  -- a turn's question is this one, or it still waits
  data Either (A : Type 0) (B : Type 1) : Type 1 where
    now : A → Either A B
    still : B → Either A B

  more_asked : (F : List Frame) (s : Subterm) (ss : List Subterm) (n q : ℕ) (X : Context) → Open q X F (s ∷ ss) n →
      Either ((q ≡ s.port) × (X ≡ asked s.levels n)) (Open q X F (s ∷ ss) (suc n))
  more_asked F s ss n q X (in_later s' i w k) = still (in_later s' i w k)
  more_asked F s ss n q X (in_first w k low) = by w k.place k.level k.rest k.asks k.close k.seat low
    where
      by : (w : Waits F s) (x : Place) (v : Level) (c : Context) (a : Asks τ w.part x v c) → Close τ w.part x v c a →
          w.seats x v c q X → AtLeast n w.part x v c a →
          Either ((q ≡ s.port) × (X ≡ asked s.levels n)) (Open q X F (s ∷ ss) (suc n))
      by w x v c (part b s k a g f) z seat low = still (in_first w (record {
        place = x;
        level = v;
        rest = c;
        asks = part b s k a g f;
        close = z;
        seat = seat;
      }) tt)
      by w x v c (whole m e) z seat low = elim (least_or (suc n) m) [
        | inl less ↦ now (at_question F s w q X n m v c seat e z.0 (omega arith))
        | inr more ↦ still (in_first w (record {
          place = x;
          level = v;
          rest = c;
          asks = whole m e;
          close = z;
          seat = seat;
        }) more)
      ]

  module _ (F : List Frame) (s : Subterm) (ss : List Subterm) (n k : ℕ) (v : HeadVar) (ls : List Level) where
    -- what is asked of an argument of the head that was found
    of_argument : (w : Waits F s) (p : ℕ) (Y : Context) → Matches (F ++ framed s 0 ∷ []) p Y (length F) n v k ls →
        (e : Exit τ N w.chain F s w.part w.seats n p Y) (q : ℕ) (X : Context) (i : ℕ) (Q : Tree)
        (arg : Arg e.last i Q) (x y : Place) (a b b' : Level) (c d : Context) (g : Asks τ Q x a c) →
        Close τ Q x a c g → StandsAt τ arg empty x a c y b' d → SameAlong τ e.leads y b b' → w.seats y b d q X →
        Open q X (F ++ framed s n ∷ [])
        (arguments (length F) (port_of (F ++ framed s n ∷ []) v) ls 0 k ++ ss) 0
    of_argument w p Y m e q X i Q arg x y a b b' c d g z st al seat =
        let one = exit_is_one (F ++ framed s 0 ∷ []) (length F) n p Y (head n v k ls)
        (head n e.says.says.variable e.args e.says.first) (matched m)
        (matched (exit_matches F s w.seen w.is_chain n p Y e)) in
        let ev : v ≡ e.says.says.variable = cc in
        let ek : k ≡ e.args = cc in
        let el : ls ≡ e.says.first = cc in
        let f = framed s n in
        let l = length_push F f in
        let few = (root_stands τ arg empty e.normal).0 in
        let port : port_of (F ++ f ∷ []) v ≡ p = ap (port_of (F ++ f ∷ [])) ev
        ∙ port_of_stays F f (framed s 0) e.says.says.variable refl ∙ e.says.says.port in
        let below : IsChain (F ++ f ∷ []) (length (F ++ f ∷ [])) (Some (length F)) ((length F, f) ∷ w.chain) = (
          refl,
          (omega arith),
          (omega arith),
          frame_last F f,
          chain_grows F f (length F) s.parent w.chain w.is_chain,
        ) in
        open_in (F ++ f ∷ []) (arguments (length F) (port_of (F ++ f ∷ []) v) ls 0 k ++ ss)
        (record { port = port_of (F ++ f ∷ []) v; levels = ls ++ os i (star empty) ∷ []; parent = Some (length F) })
        (in_arguments (length F) (port_of (F ++ f ∷ []) v) ls ss 0 k i i (omega arith) (omega arith))
        (record {
          part = Q;
          chain = (length F, f) ∷ w.chain;
          seats = ArgSeats τ e.leads arg w.seats;
          seen = subst (λ ls. IsSeen τ N ((length F, f) ∷ w.chain) (port_of (F ++ f ∷ []) v)
              (ls ++ os i (star empty) ∷ []) Q (ArgSeats τ e.leads arg w.seats)) (sym el)
              (subst (λ q. IsSeen τ N ((length F, f) ∷ w.chain) q
              (e.says.first ++ os i (star empty) ∷ []) Q (ArgSeats τ e.leads arg w.seats)) (sym port)
              (arg_seen w.seen e.leads arg (length F) f refl refl e.lams e.place e.inner e.level e.args
              e.normal e.same p e.says.first e.says.stands));
          is_chain = below;
        }) q X (record { place = x; level = a; rest = c; asks = g; close = z; seat = (y, b', d, st, b, al, seat) })

    -- and of the first subterm
    of_first : (w : Waits F s) (p : ℕ) (Y : Context) → Matches (F ++ framed s 0 ∷ []) p Y (length F) n v k ls →
        Exit τ N w.chain F s w.part w.seats n p Y → (q : ℕ) (X : Context) (x : Place) (a : Level) (c : Context)
        (g : Asks τ w.part x a c) → Close τ w.part x a c g → w.seats x a c q X → AtLeast n w.part x a c g →
        Either ((q ≡ s.port) × (X ≡ asked s.levels n)) (Open q X (F ++ framed s n ∷ [])
        (arguments (length F) (port_of (F ++ framed s n ∷ []) v) ls 0 k ++ ss) 0)
    of_first w p Y m e q X x a c (whole b o) z seat low =
        let few = rest_of z.3 e.leads e.normal in
        let g = z.4 in
        let j = e.lams in
        now (at_question F s w q X n b a c seat o z.0 (omega arith))
    of_first w p Y m e q X y b d (part {Q = Q} {i = i} {x = x} {v = a} {c = c} b' s' k' g st al) z seat low =
        let r = carried τ s' k' e.leads e.normal in
        still (of_argument w p Y m e q X i Q r.arg x y a b b' c d g z (r.stands x y a b' c d st) (r.same y b b' al) seat)

    of_later : (q : ℕ) (X : Context) (s' : Subterm) → IsIn s' ss → (w : Waits F s') → Sought w.part w.seats q X →
        Open q X (F ++ framed s n ∷ [])
        (arguments (length F) (port_of (F ++ framed s n ∷ []) v) ls 0 k ++ ss) 0
    of_later q X s' i w z =
        let f = framed s n in
        let l = length_push F f in
        open_in (F ++ f ∷ []) (arguments (length F) (port_of (F ++ f ∷ []) v) ls 0 k ++ ss) s'
        (in_others s' (arguments (length F) (port_of (F ++ f ∷ []) v) ls 0 k) ss i)
        (record {
          part = w.part;
          chain = w.chain;
          seats = w.seats;
          seen = w.seen;
          is_chain = chain_more F (f ∷ []) (length F) (length (F ++ f ∷ [])) s'.parent w.chain (omega arith) w.is_chain;
        }) q X z

  module _ (R M : NamedNet NodeName) (is_net : IsNet M) (paths : HaveSamePaths R M) (same : HaveSamePaths N R) where
    module _ (F : List Frame) (s : Subterm) (ss : List Subterm) (n : ℕ) (y : Tried R (asks F (s ∷ ss) n)) where
      is_head : {end : chain.End NodeName} {a : Answer} {n' k : ℕ} {v : HeadVar} {ls : List Level} →
          IsFound M F s n end a → a ≡ head n' v k ls → Ends M s.port (asked s.levels n) end →
          IsHead R (F ++ framed s 0 ∷ []) (length F) a
      is_head (exits {q = q} {X = X} {a = a} m) e h =
          let z = frame_last F (framed s 0) in
          heads.leaves {n = n} {q = q} {X = X}
          (λ m b. subst (λ (f : Frame). NoPath R f.port (asked f.levels m)) (sym z) (y s ss refl m b))
          (subst (λ (f : Frame). Path R (free f.port) (asked f.levels n) q X) (sym z)
          ((paths s.port (asked s.levels n) q X).1 (path_at M is_net s.port (asked s.levels n) q X h))) m
      is_head (lost b) e h = absurd (cc)
      is_head spent e h = absurd (cc)

      -- the chain leaves, and the head has the abstractions that were asked for
      record Leaves (end : chain.End NodeName) (n' : ℕ) : Type 0 where
        port : ℕ
        context : Context
        is : end ≡ chain.left port context
        lams : n' ≡ n

      has_left : {end : chain.End NodeName} {a : Answer} {n' k : ℕ} {v : HeadVar} {ls : List Level} →
          IsFound M F s n end a → a ≡ head n' v k ls → Leaves end n'
      has_left {n' = n'} (exits {q = q} {X = X} (matched m)) e = record {
        port = q;
        context = X;
        is = refl;
        lams = (let f : n ≡ n' = cc in sym f);
      }
      has_left (exits (unmatched m)) e = absurd (cc)
      has_left (lost b) e = absurd (cc)
      has_left spent e = absurd (cc)

      abbrev Asked : ℕ → Context → Type 0
      Asked q X = (q ≡ s.port) × (X ≡ asked s.levels n) × MeetsNone M q X

      head_found : {end : chain.End NodeName} (n' k : ℕ) (v : HeadVar) (ls : List Level) →
          IsFound M F s n end (head n' v k ls) → Ends M s.port (asked s.levels n) end → (q : ℕ) (X : Context) →
          Open q X F (s ∷ ss) n → Either (Asked q X)
          (Open q X (F ++ framed s n' ∷ [])
          (arguments (length F) (port_of (F ++ framed s n' ∷ []) v) ls 0 k ++ ss) 0)
      head_found n' k v ls f ends q X (in_later s' i w z) = still (of_later F s ss n' k v ls q X s' i w z)
      head_found {end} n' k v ls f ends q X (in_first w z low) =
          let l = has_left f refl in
          let r = is_head_of (heads_are_kept R N (λ p c q X. ((same p c q X).1, (same p c q X).0))
          (F ++ framed s 0 ∷ []) (length F) (head n' v k ls) (is_head f refl ends)) in
          let e = exit_of F s w.seen w.is_chain n' r.port r.context r.few r.path in
          by l (of_first F s ss n' k v ls w r.port r.context r.match e q X z.place z.level z.rest z.asks z.close z.seat
          (subst (λ n. AtLeast n w.part z.place z.level z.rest z.asks) (sym l.lams) low))
        where
          by : Leaves end n' → Either ((q ≡ s.port) × (X ≡ asked s.levels n'))
              (Open q X (F ++ framed s n' ∷ [])
              (arguments (length F) (port_of (F ++ framed s n' ∷ []) v) ls 0 k ++ ss) 0) →
              Either (Asked q X) (Open q X (F ++ framed s n' ∷ [])
              (arguments (length F) (port_of (F ++ framed s n' ∷ []) v) ls 0 k ++ ss) 0)
          by l (still o) = still o
          by l (now e) =
              let g : X ≡ asked s.levels n = e.1 ∙ ap (asked s.levels) l.lams in
              now (
                e.0,
                g,
                subst (λ q. MeetsNone M q X) (sym e.0) (subst (λ X. MeetsNone M s.port X) (sym g)
                    (inl (l.port, l.context, subst (λ e. Ends M s.port (asked s.levels n) e) l.is ends))),
              )

    turn_goes : {many ticket : ℕ} {es : List Entry} {ns : List ReadNode} {P : NamedNet NodeName} {a b : Asking}
        (u : Turn many M ticket a es ns P b) → HasAllHeads ns → Tried R a → (q : ℕ) (X : Context) →
        Open q X a.frames a.waiting a.lams → Either (AnswersNow u q X) (Open q X b.frames b.waiting b.lams)
    turn_goes (rewrites m) g y q X o = still o
    turn_goes (one_more {F = F} {s = s} {ss = ss} {n = n} h l) g y q X o = more_asked F s ss n q X o
    turn_goes (finds {F = F} {s = s} {ss = ss} {n = n} {a = head n' v k ls} h f) g y q X o =
        head_found F s ss n y n' k v ls f h.ends q X o
    turn_goes (finds {a = no_head} h f) g y q X o = absurd g
    turn_goes (finds {a = heads.budget} h f) g y q X o = absurd g

    turn_tried : {many ticket : ℕ} {es : List Entry} {ns : List ReadNode} {P : NamedNet NodeName} {a b : Asking} →
        Turn many M ticket a es ns P b → Tried R a → Tried R b
    turn_tried (rewrites m) y = y
    turn_tried (one_more {F = F} {s = s} {ss = ss} {n = n} h l) y = tried_more R M is_net paths F s ss n h.ends y
    turn_tried (finds {F = F} {s = s} {ss = ss} {n = n} {a = c} h f) y = tried_none R F s ss c

  -- ---- a run

  pub all_heads : (ps ns : List ReadNode) → HasAllHeads (ps ++ ns) → HasAllHeads ps × HasAllHeads ns
  all_heads [] ns h = (tt, h)
  all_heads (node.Head l v k ∷ ps) ns h = all_heads ps ns h
  all_heads (node.NoHead ∷ ps) ns h = absurd h
  all_heads (node.Cut ∷ ps) ns h = absurd h

  abbrev whole_waits : Waits [] whole_term
  whole_waits = record {
    part = t;
    chain = [];
    seats = WholeSeats;
    seen = term_seen τ t names h;
    is_chain = refl;
  }

  along : {R : NamedNet NodeName} {many : ℕ} {M P : NamedNet NodeName} {turns : ℕ} {journal es : List Entry}
      {places ns : List ReadNode} {a b : Asking} (r : Turns R many turns journal places M a)
      (u : Turn many M (length journal) a es ns P b) (q : ℕ) (X : Context) →
      Either (IsAnswered r q X) (Open q X a.frames a.waiting a.lams) →
      (Open q X a.frames a.waiting a.lams → Either (AnswersNow u q X) (Open q X b.frames b.waiting b.lams)) →
      Either (IsAnswered (and_then r u) q X) (Open q X b.frames b.waiting b.lams)
  along r u q X (now e) f = now (inl e)
  along {b = b} r u q X (still o) f = go (f o)
    where
      go : Either (AnswersNow u q X) (Open q X b.frames b.waiting b.lams) →
          Either (IsAnswered (and_then r u) q X) (Open q X b.frames b.waiting b.lams)
      go (now e) = now (inr e)
      go (still o) = still o

  run_goes : {R : NamedNet NodeName} {many : ℕ} {M : NamedNet NodeName} {turns : ℕ} {journal : List Entry}
      {places : List ReadNode} {a : Asking} → IsStart R → HaveSamePaths N R →
      (r : Turns R many turns journal places M a) → HasAllHeads places → (q : ℕ) (X : Context) →
      Sought t WholeSeats q X → Either (IsAnswered r q X) (Open q X a.frames a.waiting a.lams) × Tried R a
  run_goes s same begins g q X z =
      (still (in_first whole_waits z (none_less t z.place z.level z.rest z.asks)), λ t ts e m b. absurd (omega arith))
  run_goes {R = R} s same (and_then {places = ps} {ns = ns} {M = M} r t) g q X z =
      let k = turns_kept s r in
      let c = all_heads ps ns g in
      let x = run_goes s same r c.0 q X z in
      (along r t q X x.0 (turn_goes R M k.net k.paths same t c.1 x.1 q X), turn_tried R M k.net k.paths same t x.1)

  none_waits : (q : ℕ) (X : Context) (F : List Frame) (n : ℕ) → Open q X F [] n → ⊥
  none_waits q X F n o = elim o [ ]

  -- a place to which walks from the root lead is a port of the net
  pub port_of_place : {y : Place} {v : Level} → Reached τ t y v → (q : ℕ) × (y ≡ place q)
  port_of_place (begun n l e) = (0, refl)
  port_of_place (walked {p = p} {q = q} {v = v} {w = w} {c = c} {d = d} {n = n} r l) =
      let x = port_of_place r in
      let z = (term_seen τ t names h).forth p q v w c d n x.0 (cons v c) (x.1, refl) l in
      (z.0, z.2.0)

  -- so each question is answered that is close and begins at a port
  pub is_answered : (R : NamedNet NodeName) (many : ℕ) (M : NamedNet NodeName) (turns : ℕ) (journal : List Entry)
      (places : List ReadNode) (a : Asking) → IsStart R → HaveSamePaths N R →
      (r : Turns R many turns journal places M a) → a.waiting ≡ [] → HasAllHeads places →
      (y : Place) (v : Level) (c : Context) (k : Asks τ t y v c) → Close τ t y v c k → Reached τ t y v →
      (q : ℕ) × (y ≡ place q) × IsAnswered r q (cons v c)
  is_answered R many M turns journal places a s same r e g y v c k z f =
      let x = port_of_place f in (
        x.0,
        x.1,
        by (run_goes s same r g x.0 (cons v c) (record {
          place = y;
          level = v;
          rest = c;
          asks = k;
          close = z;
          seat = (x.1, refl);
        })).0,
      )
    where
      by : {q : ℕ} {X : Context} → Either (IsAnswered r q X) (Open q X a.frames a.waiting a.lams) → IsAnswered r q X
      by (now e) = e
      by {q} {X} (still o) = absurd (none_waits q X a.frames a.lams
          (subst (λ ss. Open q X a.frames ss a.lams) e o))
