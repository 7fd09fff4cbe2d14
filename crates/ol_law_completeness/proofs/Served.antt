-- Where some run serves to read the places, the demand run for these places has an end.
use Rattle.std.proofs.Common.{◌≡◌, ℕ, zero, suc, ◌+◌, ◌<◌, ◌≤◌, ◌⊎◌, inl, inr, List, [], ◌∷◌}
use Rattle.std.proofs.Common.{◌++◌, length, map, refl, ◌∙◌, subst, arith, length-append}
use Rattle.std.proofs.lemmas.Bool.{cases_lt}
use Rattle.std.proofs.lemmas.List.{length_push}
use Rattle.ol_invariance.proofs.Runs.{run_keeps as paths_kept, run_keeps_ports}
use Rattle.ol_net.specs.Nets.{NamedNet, NamedPort, free, IsNet}
use Rattle.ol_context.specs.Contexts.{Level, Context}
use Rattle.ol_context.specs.Paths.{Path, ends, goes, HaveSamePaths}
use Rattle.ol_context.specs.Short.{live}
use Rattle.ol_rules.specs.declared.journal.NodeName.{NodeName}
use Rattle.ol_rules.specs.declared.journal.Entry.{Entry}
use Rattle.ol_rules.specs.Runs.{IsRun}
use Rattle.ol_diamond.proofs.OneThreadRuns.{run_net}
use Rattle.ol_readback.specs.Frames.{Frame, asked}
use Rattle.ol_readback.specs.Heads.{Answer, head, no_head, matched, unmatched, IsMatched, NoPath}
use Rattle.ol_readback.specs.Heads as answer
use Rattle.ol_readback.specs.ReadTrees.{Subterm, whole_term, framed, port_of, arguments}
use Rattle.ol_readback.specs.declared.answers.ReadNode.{ReadNode}
use Rattle.ol_readback.specs.declared.answers.ReadNode.TheVariants as node
use Rattle.ol_readback.proofs.Places.{port_is, port_same}
use Rattle.ol_demand.specs.Chains as chain
use Rattle.ol_demand.specs.Chains.{Ends}
use Rattle.ol_demand.specs.Demands.{Asking, asks, IsFound, exits, lost, spent, next, Turn, rewrites, one_more, finds}
use Rattle.ol_demand.specs.Demands.{Turns, begins, and_then, place_of, IsDemandRun}
use Rattle.ol_demand.specs.Laws.{IsStart}
use Rattle.ol_demand.proofs.Chains.{path_at}
use Rattle.ol_demand.proofs.Turning.{IsKept, turns_kept}
use Rattle.ol_law_completeness.specs.Laws.{CrossesNoStuck}
use Rattle.ol_law_completeness.specs.Complete.{StaysClear}
use Rattle.ol_law_completeness.specs.Least.{CanBeRead, IsEnough, past, place, unknown, headless}
use Rattle.ol_law_completeness.specs.TheLeast.{EndsWhereOneServes}
use Rattle.ol_law_completeness.proofs.Beside.{Beside, turns_beside, not_tried, path_of, none_of}
use Rattle.ol_law_completeness.proofs.Chaining.{chain_ends}
use Rattle.ol_law_completeness.proofs.Ending.{exit_here}
use Rattle.ol_law_completeness.proofs.Frozen.{meets_of}
use Rattle.ol_law_completeness.proofs.Least.{demand_is_least}
use Rattle.ol_law_completeness.proofs.Listing.{step_turn}

-- ---- the ports of what is left to be read

abbrev pub AllAtPorts : ℕ → List Subterm → Type 0
AllAtPorts m [] = Unit {0}
AllAtPorts m (s ∷ ss) = (s.port < m) × AllAtPorts m ss

more_ports : (m : ℕ) (ss ts : List Subterm) → AllAtPorts m ss → AllAtPorts m ts →
    AllAtPorts m (ss ++ ts)
more_ports m [] ts h k = k
more_ports m (s ∷ ss) ts h k = (h.0, more_ports m ss ts h.1 k)

argument_ports : (m i q : ℕ) (ls : List Level) (j k : ℕ) → q < m →
    AllAtPorts m (arguments i q ls j k)
argument_ports m i q ls j zero b = tt
argument_ports m i q ls j (suc k) b = (b, argument_ports m i q ls (suc j) k b)

exit_port : (M : NamedNet NodeName) → IsNet M → {p : NamedPort NodeName} {c : Context} {q : ℕ}
    {X : Context} → Path M p c q X → q < M.free_ports
exit_port M is_net (ends {p = p} {q = q} l) = (is_net.of_ports p (free q) l).1
exit_port M is_net (goes l h x r) = exit_port M is_net r

pub found_ports : (M : NamedNet NodeName) (m : ℕ) → IsNet M → M.free_ports ≡ m → (F : List Frame)
    (s : Subterm) (ss : List Subterm) (n : ℕ) {end : chain.End NodeName} {a : Answer} →
    Ends M s.port (asked s.levels n) end → IsFound M F s n end a → AllAtPorts m ss →
    AllAtPorts m (next F s ss a).waiting
found_ports M m is_net e F s ss n h (exits {q = q} {X = X} (matched {v = v} {k = k} {ls = ls} x)) r =
    let path = path_at M is_net s.port (asked s.levels n) q X h in
    let b = exit_port M is_net path in
    let z : port_of (F ++ framed s n ∷ []) v ≡ q = port_same F s n 0 v ∙ port_is x in
    more_ports m (arguments (length F) (port_of (F ++ framed s n ∷ []) v) ls 0 k) ss
    (argument_ports m (length F) (port_of (F ++ framed s n ∷ []) v) ls 0 k (omega arith)) r
found_ports M m is_net e F s ss n h (exits (unmatched x)) r = r
found_ports M m is_net e F s ss n h (lost b) r = r
found_ports M m is_net e F s ss n h spent r = r

turn_ports : (M K : NamedNet NodeName) (m heads t : ℕ) (es : List Entry) (ns : List ReadNode)
    (a b : Asking) → IsNet M → M.free_ports ≡ m → Turn heads M t a es ns K b →
    AllAtPorts m a.waiting → AllAtPorts m b.waiting
turn_ports M K m heads t es ns a b is_net e (rewrites x) r = r
turn_ports M K m heads t es ns a b is_net e (one_more h l) r = r
turn_ports M K m heads t es ns a b is_net e (finds {F = F} {s = s} {ss = ss} {n = n} h f) r =
    found_ports M m is_net e F s ss n h.ends f r.1

turns_ports : {N : NamedNet NodeName} {heads : ℕ} {M : NamedNet NodeName} {turns : ℕ} {journal : List Entry}
    {places : List ReadNode} {a : Asking} → IsStart N → 0 < N.free_ports →
    Turns N heads turns journal places M a → AllAtPorts N.free_ports a.waiting
turns_ports s root begins = (root, tt)
turns_ports {N = N} {heads = heads} s root (and_then {journal = journal} {es = es} {ns = ns}
    {M = M} {P = K} {a = a} {b = b} y t) =
    let k = turns_kept s y in
    turn_ports M K N.free_ports heads (length journal) es ns a b k.net
    (run_keeps_ports N M 0 journal k.run) t (turns_ports s root y)

-- ---- one turn more

-- what the next turn is, where a place is still asked
data Next (heads : ℕ) (M : NamedNet NodeName) (t : ℕ) (F : List Frame) (s : Subterm)
    (ss : List Subterm) (n : ℕ) : Type 0 where
  steps : (e : Entry) (K : NamedNet NodeName) →
      Turn heads M t (asks F (s ∷ ss) n) (e ∷ []) [] K (asks F (s ∷ ss) n) →
      Next heads M t F s ss n
  asks_more : n < live M → Turn heads M t (asks F (s ∷ ss) n) [] [] M (asks F (s ∷ ss) (suc n)) →
      Next heads M t F s ss n
  finds_one : (ns : List ReadNode) (G : List Frame) (ts : List Subterm) →
      Turn heads M t (asks F (s ∷ ss) n) [] ns M (asks G ts 0) → length G ≡ suc (length F) →
      Next heads M t F s ss n

module _ (N P : NamedNet NodeName) (heads : ℕ) (other : List Entry) (start : IsStart N)
    (clear : StaysClear N) (root : 0 < N.free_ports) (run' : IsRun N 0 other P)
    (enough : CanBeRead P heads) where
  is_net' : IsNet P
  is_net' = run_net N P 0 other start.net start.named run'

  module _ (turns : ℕ) (journal : List Entry) (places : List ReadNode) (M : NamedNet NodeName)
      (F : List Frame) (s : Subterm) (ss : List Subterm) (n : ℕ)
      (t : Turns N heads turns journal places M (asks F (s ∷ ss) n)) (b : length F < heads) where
    k : IsKept N journal M
    k = turns_kept start t

    u : Beside P is_net' heads heads (omega arith) M (asks F (s ∷ ss) n)
    u = (turns_beside P is_net' heads heads (omega arith) start clear
        (paths_kept N P 0 other start.net start.named run') enough t).beside

    finds_answer : {end : chain.End NodeName} (a : Answer) →
        Ends M s.port (asked s.levels n) end → IsFound M F s n end a →
        Next heads M (length journal) F s ss n
    finds_answer (head m v args ls) e f =
        finds_one (place_of (head m v args ls) ∷ []) (F ++ framed s m ∷ [])
        (arguments (length F) (port_of (F ++ framed s m ∷ []) v) ls 0 args ++ ss)
        (finds {a = head m v args ls} (record { below = b; ends = e }) f)
        (let l = length_push F (framed s m) in omega arith)
    finds_answer no_head e f =
        finds_one (node.NoHead ∷ []) (F ++ framed s 0 ∷ []) ss
        (finds {a = no_head} (record { below = b; ends = e }) f) (let l = length_push F (framed s 0) in omega arith)
    finds_answer answer.budget e f =
        finds_one (node.Cut ∷ []) (F ++ framed s 0 ∷ []) ss
        (finds {a = answer.budget} (record { below = b; ends = e }) f)
        (let l = length_push F (framed s 0) in omega arith)

    clear_here : CrossesNoStuck M
    clear_here = clear journal M k.run

    paths : HaveSamePaths P M
    paths p c q X =
        let h = paths_kept N P 0 other start.net start.named run' p c q X in (
          λ r. (k.paths p c q X).0 (h.1 r),
          λ r. h.0 ((k.paths p c q X).1 r),
        )

    -- a walk that leaves tells what was found
    told : (q : ℕ) (X : Context) → Ends M s.port (asked s.levels n) (chain.left q X) →
        Next heads M (length journal) F s ss n
    told q X e = by u.enough
      where
        here : (n0 q0 : ℕ) (X0 : Context) (a : Answer) → ((j : ℕ) → j < n0 →
            NoPath P s.port (asked s.levels j)) →
            Ends P s.port (asked s.levels n0) (chain.left q0 X0) →
            IsMatched (F ++ framed s 0 ∷ []) (length F) n0 q0 X0 a →
            Next heads M (length journal) F s ss n
        here n0 q0 X0 a few x match =
            let path = path_of P is_net' heads heads (omega arith) M k.net clear_here paths F s ss n
            u n0 q0 X0 x in
            let le = not_tried P is_net' heads heads (omega arith) M k.net clear_here paths F s ss n
            u n0 q0 X0 path in
            let none = none_of P is_net' heads heads (omega arith) M k.net clear_here paths F s ss n
            u n0 few in
            let o = exit_here M k.net F s n n0 q0 q X0 X a none path match le e in
            finds_answer a e (exits o.1)

        by : IsEnough P heads F (s ∷ ss) → Next heads M (length journal) F s ss n
        by (past c) = absurd (omega arith)
        by (headless nowhere none rest) =
            absurd (nowhere n q X ((paths s.port (asked s.levels n) q X).1
            (path_at M k.net s.port (asked s.levels n) q X e)))
        by (place {n = n0} {q = q0} {k = args} {X = X0} {v = v} {ls = ls} few x match rest) =
            here n0 q0 X0 (head n0 v args ls) few x (matched match)
        by (unknown {n = n0} {q = q0} {X = X0} few x nothing rest) =
            here n0 q0 X0 no_head few x (unmatched nothing)

    next_turn : Next heads M (length journal) F s ss n
    next_turn =
        by (chain_ends M k.net s.port (asked s.levels n)
        (let e = run_keeps_ports N M 0 journal k.run in let p = (turns_ports start root t).0 in
        omega arith))
      where
        by : (end : chain.End NodeName) × Ends M s.port (asked s.levels n) end →
            Next heads M (length journal) F s ss n
        by (chain.met f g r, e) =
            let x = step_turn heads M (length journal) F s ss n k.net k.named b f g r
            (meets_of e).at.active e in
            steps x.entry x.after x.turn
        by (chain.left q X, e) = told q X e
        by (chain.undefined, e) = go (cases_lt n (live M))
          where
            go : (n < live M) ⊎ (live M ≤ n) → Next heads M (length journal) F s ss n
            go (inl c) = asks_more c (one_more (record { below = b; ends = e }) c)
            go (inr c) = finds_answer no_head e (lost c)
        by (chain.budget, e) = finds_answer answer.budget e spent

  -- ---- all of them

  abbrev Run : Type 0
  Run = (journal : List Entry) × (places : List ReadNode) × (M : NamedNet NodeName)
      × IsDemandRun N heads journal places M

  -- So many steps are left at most, so many places, and so many more abstractions for this one.
  abbrev More : ℕ → ℕ → ℕ → Type 0
  More a b c = (turns : ℕ) (journal : List Entry) (places : List ReadNode)
      (M : NamedNet NodeName) (F : List Frame) (ss : List Subterm) (n : ℕ) →
      Turns N heads turns journal places M (asks F ss n) → length other ≤ length journal + a →
      heads ≤ length F + b → live M ≤ n + c → Run

  finish : (turns : ℕ) (journal : List Entry) (places : List ReadNode) (M : NamedNet NodeName)
      (a : Asking) → Turns N heads turns journal places M a →
      (a.waiting ≡ []) ⊎ (heads ≤ length a.frames) → Run
  finish turns journal places M a t o = (
    journal,
    places ++ map (λ s. node.Cut) a.waiting,
    M,
    record { turns = turns; asked_places = places; last = a; run = t; over = o; all = refl },
  )

  stand : (a b c : ℕ) → ((a' : ℕ) → a ≡ suc a' → (b c : ℕ) → More a' b c) →
      ((b' : ℕ) → b ≡ suc b' → (c : ℕ) → More a b' c) → ((c' : ℕ) → c ≡ suc c' → More a b c') →
      More a b c
  stand a b c fewer nearer on turns journal places M F [] n t x y z =
      finish turns journal places M (asks F [] n) t (inl refl)
  stand a b c fewer nearer on turns journal places M F (s ∷ ss) n t x y z =
      by (cases_lt (length F) heads)
    where
      next : Next heads M (length journal) F s ss n → length F < heads → Run
      next (steps e K turn) l = go a refl
        where
          low : length (journal ++ e ∷ []) ≤ length other
          low = (demand_is_least N K P heads heads (suc turns) (journal ++ e ∷ []) other
              (places ++ []) (asks F (s ∷ ss) n) start clear (omega arith) (and_then t turn) run'
              enough).1

          go : (a0 : ℕ) → a ≡ a0 → Run
          go zero q = absurd (let w = length-append journal (e ∷ []) in let v = low in omega arith)
          go (suc a0) q =
              fewer a0 q heads (live K) (suc turns) (journal ++ e ∷ []) (places ++ []) K F (s ∷ ss)
              n (and_then t turn) (let w = length-append journal (e ∷ []) in omega arith)
              (omega arith) (omega arith)
      next (asks_more d turn) l = go c refl
        where
          go : (c0 : ℕ) → c ≡ c0 → Run
          go zero q = absurd (omega arith)
          go (suc c0) q =
              on c0 q (suc turns) (journal ++ []) (places ++ []) M F (s ∷ ss) (suc n)
              (and_then t turn) (let w = length-append journal [] in omega arith) y (omega arith)
      next (finds_one ns G ts turn e) l = go b refl
        where
          go : (b0 : ℕ) → b ≡ b0 → Run
          go zero q = absurd (omega arith)
          go (suc b0) q =
              nearer b0 q (live M) (suc turns) (journal ++ []) (places ++ ns) M G ts 0
              (and_then t turn) (let w = length-append journal [] in omega arith) (omega arith)
              (omega arith)

      by : (length F < heads) ⊎ (heads ≤ length F) → Run
      by (inr l) = finish turns journal places M (asks F (s ∷ ss) n) t (inr l)
      by (inl l) = next (next_turn turns journal places M F s ss n t l) l

  go_on : (a b c : ℕ) → ((a' : ℕ) → a ≡ suc a' → (b c : ℕ) → More a' b c) →
      ((b' : ℕ) → b ≡ suc b' → (c : ℕ) → More a b' c) → More a b c
  go_on a b zero fewer nearer = stand a b zero fewer nearer (λ c e. absurd (omega arith))
  go_on a b (suc c) fewer nearer = stand a b (suc c) fewer nearer (λ c' e. (let q : c ≡ c' =
      omega arith in subst (λ c. More a b c) q (go_on a b c fewer nearer)))

  go_through : (a b : ℕ) → ((a' : ℕ) → a ≡ suc a' → (b c : ℕ) → More a' b c) → (c : ℕ) →
      More a b c
  go_through a zero fewer c = go_on a zero c fewer (λ b e. absurd (omega arith))
  go_through a (suc b) fewer c = go_on a (suc b) c fewer (λ b' e. (let q : b ≡ b' =
      omega arith in subst (λ b. (c : ℕ) → More a b c) q (go_through a b fewer)))

  go_far : (a b c : ℕ) → More a b c
  go_far zero b c = go_through zero b (λ a e. absurd (omega arith)) c
  go_far (suc a) b c = go_through (suc a) b (λ a' e. (let q : a ≡ a' = omega arith in
      subst (λ a. (b c : ℕ) → More a b c) q (go_far a))) c

  pub demand_ends : Run
  demand_ends =
      go_far (length other) heads (live N) 0 [] [] N [] (whole_term ∷ []) 0 begins (omega arith)
      (omega arith) (omega arith)

pub ends_where_one_serves : EndsWhereOneServes
ends_where_one_serves N P heads other s clear root run enough =
    demand_ends N P heads other s clear root run enough
