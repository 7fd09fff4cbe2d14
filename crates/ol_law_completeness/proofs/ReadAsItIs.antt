-- Where the places can be read from a net as it is, demand order makes no step from it, and ends.
use Rattle.std.proofs.Common.{◌≡◌, ℕ, zero, suc, ◌+◌, ◌<◌, ◌≤◌, ◌⊎◌, inl, inr, List, [], ◌∷◌}
use Rattle.std.proofs.Common.{◌++◌, length, map, refl, subst, arith}
use Rattle.std.proofs.lemmas.Bool.{cases_lt}
use Rattle.std.proofs.lemmas.List.{length_push}
use Rattle.ol_net.specs.declared.parts.Rule.{Rule}
use Rattle.ol_net.specs.Nets.{NamedNet, free, IsNet}
use Rattle.ol_context.specs.Contexts.{Context}
use Rattle.ol_context.specs.Paths.{Path, HaveSamePaths}
use Rattle.ol_context.specs.Short.{live}
use Rattle.ol_rules.specs.declared.journal.NodeName.{NodeName}
use Rattle.ol_readback.specs.Frames.{Frame, asked}
use Rattle.ol_readback.specs.Heads.{Answer, head, no_head, matched, unmatched, IsMatched, NoPath}
use Rattle.ol_readback.specs.Heads as answer
use Rattle.ol_readback.specs.ReadTrees.{Subterm, whole_term, framed, port_of, arguments}
use Rattle.ol_readback.specs.declared.answers.ReadNode.{ReadNode}
use Rattle.ol_readback.specs.declared.answers.ReadNode.TheVariants as node
use Rattle.ol_demand.specs.Chains as chain
use Rattle.ol_demand.specs.Chains.{Ends}
use Rattle.ol_demand.specs.Demands.{Asking, asks, ChainEnds, IsFound, exits, lost, spent, Turn, one_more, finds, Turns}
use Rattle.ol_demand.specs.Demands.{begins, and_then, place_of, IsDemandRun}
use Rattle.ol_demand.proofs.Chains.{path_at}
use Rattle.ol_law_completeness.specs.Laws.{CrossesNoStuck}
use Rattle.ol_law_completeness.specs.Least.{CanBeRead, IsEnough, past, place, unknown, headless, ReadAsItIs}
use Rattle.ol_law_completeness.proofs.AsItIs.{enough_without_heads}
use Rattle.ol_law_completeness.proofs.Beside.{Beside, one_more_beside, finds_beside, not_tried}
use Rattle.ol_law_completeness.proofs.Chaining.{chain_ends}
use Rattle.ol_law_completeness.proofs.Ending.{exit_here}
use Rattle.ol_law_completeness.proofs.Frozen.{meets_of, leaves_of, not_both}
use Rattle.ol_law_completeness.proofs.Served.{AllAtPorts, found_ports}
use Rattle.ol_law_completeness.proofs.Tracing.{chains_meet_alike}

module _ (P : NamedNet NodeName) (heads : ℕ) (is_net : IsNet P) (clear : CrossesNoStuck P)
    (root : 0 < P.free_ports) where
  same : HaveSamePaths P P
  same p c q X = (λ r. r, λ r. r)

  below : heads ≤ heads
  below = omega arith

  -- what is left can be read as it is, and stands at ports of the net
  record Left (a : Asking) : Type 0 where
    beside : Beside P is_net heads heads below P a
    ports : AllAtPorts P.free_ports a.waiting

  -- what the next turn is: no step
  data Next (F : List Frame) (s : Subterm) (ss : List Subterm) (n : ℕ) : Type 0 where
    asks_more : n < live P → Turn heads P 0 (asks F (s ∷ ss) n) [] [] P (asks F (s ∷ ss) (suc n)) →
        Left (asks F (s ∷ ss) (suc n)) → Next F s ss n
    finds_one : (ns : List ReadNode) (G : List Frame) (ts : List Subterm) →
        Turn heads P 0 (asks F (s ∷ ss) n) [] ns P (asks G ts 0) → length G ≡ suc (length F) →
        Left (asks G ts 0) → Next F s ss n

  module _ (F : List Frame) (s : Subterm) (ss : List Subterm) (n : ℕ)
      (u : Left (asks F (s ∷ ss) n)) (b : length F < heads) where
    least_path : (n0 q : ℕ) (X : Context) → Path P (free s.port) (asked s.levels n0) q X → n ≤ n0
    least_path n0 q X path =
        not_tried P is_net heads heads below P is_net clear same F s ss n u.beside n0 q X path

    finds_answer : (end : chain.End NodeName) (a : Answer) → ChainEnds heads P F s n end →
        IsFound P F s n end a → Next F s ss n
    finds_answer end (head m v args ls) h f =
        finds_one (place_of (head m v args ls) ∷ []) (F ++ framed s m ∷ [])
        (arguments (length F) (port_of (F ++ framed s m ∷ []) v) ls 0 args ++ ss)
        (finds {a = head m v args ls} h f) (let l = length_push F (framed s m) in omega arith)
        (record {
          beside = finds_beside P is_net heads heads below P is_net clear same F s ss n u.beside end
              (head m v args ls) h f;
          ports = found_ports P P.free_ports is_net refl F s ss n h.ends f u.ports.1;
        })
    finds_answer end no_head h f =
        finds_one (node.NoHead ∷ []) (F ++ framed s 0 ∷ []) ss (finds {a = no_head} h f)
        (let l = length_push F (framed s 0) in omega arith) (record {
          beside = finds_beside P is_net heads heads below P is_net clear same F s ss n u.beside end
              no_head h f;
          ports = u.ports.1;
        })
    finds_answer end answer.budget h f =
        finds_one (node.Cut ∷ []) (F ++ framed s 0 ∷ []) ss (finds {a = answer.budget} h f)
        (let l = length_push F (framed s 0) in omega arith) (record {
          beside = finds_beside P is_net heads heads below P is_net clear same F s ss n u.beside end
              answer.budget h f;
          ports = u.ports.1;
        })

    -- its chain meets no pair
    meets_none : (f g : NodeName) (r : Rule) →
        Ends P s.port (asked s.levels n) (chain.met f g r) → ⊥
    meets_none f g r e = by u.beside.enough
      where
        leaves : (n0 q : ℕ) (X : Context) →
            Ends P s.port (asked s.levels n0) (chain.left q X) → ⊥
        leaves n0 q X x =
            let path = path_at P is_net s.port (asked s.levels n0) q X x in
            not_both P is_net s.port (asked s.levels n0) f g r
            (meets_of (chains_meet_alike P is_net clear s.port s.levels n0 q X path n f g r
            (least_path n0 q X path) e)) (leaves_of x)

        by : IsEnough P heads F (s ∷ ss) → ⊥
        by (past c) = omega arith
        by (headless nowhere none rest) = none n f g r (meets_of e)
        by (place {n = n0} {q = q} {X = X} few x match rest) = leaves n0 q X x
        by (unknown {n = n0} {q = q} {X = X} few x nothing rest) = leaves n0 q X x

    -- a walk that leaves tells what was found
    told : (q : ℕ) (X : Context) → Ends P s.port (asked s.levels n) (chain.left q X) → Next F s ss n
    told q X e = by u.beside.enough
      where
        here : (n0 q0 : ℕ) (X0 : Context) (a : Answer) → ((j : ℕ) → j < n0 →
            NoPath P s.port (asked s.levels j)) →
            Ends P s.port (asked s.levels n0) (chain.left q0 X0) →
            IsMatched (F ++ framed s 0 ∷ []) (length F) n0 q0 X0 a → Next F s ss n
        here n0 q0 X0 a few x match =
            let path = path_at P is_net s.port (asked s.levels n0) q0 X0 x in
            let o = exit_here P is_net F s n n0 q0 q X0 X a few path match (least_path n0 q0 X0 path)
            e in
            finds_answer (chain.left q X) a (record { below = b; ends = e }) (exits o.1)

        by : IsEnough P heads F (s ∷ ss) → Next F s ss n
        by (past c) = absurd (omega arith)
        by (headless nowhere none rest) =
            absurd (nowhere n q X (path_at P is_net s.port (asked s.levels n) q X e))
        by (place {n = n0} {q = q0} {k = args} {X = X0} {v = v} {ls = ls} few x match rest) =
            here n0 q0 X0 (head n0 v args ls) few x (matched match)
        by (unknown {n = n0} {q = q0} {X = X0} few x nothing rest) =
            here n0 q0 X0 no_head few x (unmatched nothing)

    next_turn : Next F s ss n
    next_turn =
        by (chain_ends P is_net s.port (asked s.levels n) (let p = u.ports.0 in omega arith))
      where
        by : (end : chain.End NodeName) × Ends P s.port (asked s.levels n) end → Next F s ss n
        by (chain.met f g r, e) = absurd (meets_none f g r e)
        by (chain.left q X, e) = told q X e
        by (chain.undefined, e) = go (cases_lt n (live P))
          where
            h : ChainEnds heads P F s n chain.undefined
            h = record { below = b; ends = e }

            go : (n < live P) ⊎ (live P ≤ n) → Next F s ss n
            go (inl c) = asks_more c (one_more h c) (record {
              beside = one_more_beside P is_net heads heads below P is_net clear same F s ss n
                  u.beside h;
              ports = u.ports;
            })
            go (inr c) = finds_answer chain.undefined no_head h (lost c)
        by (chain.budget, e) =
            finds_answer chain.budget answer.budget (record { below = b; ends = e }) spent

  -- ---- all of them

  abbrev Run : Type 0
  Run = (places : List ReadNode) × IsDemandRun P heads [] places P

  -- So many places are left at most, and so many more abstractions for this one.
  abbrev More : ℕ → ℕ → Type 0
  More b c = (turns : ℕ) (places : List ReadNode) (F : List Frame) (ss : List Subterm) (n : ℕ) →
      Turns P heads turns [] places P (asks F ss n) → Left (asks F ss n) → heads ≤ length F + b →
      live P ≤ n + c → Run

  finish : (turns : ℕ) (places : List ReadNode) (a : Asking) →
      Turns P heads turns [] places P a → (a.waiting ≡ []) ⊎ (heads ≤ length a.frames) → Run
  finish turns places a t o = (
    places ++ map (λ s. node.Cut) a.waiting,
    record { turns = turns; asked_places = places; last = a; run = t; over = o; all = refl },
  )

  stand : (b c : ℕ) → ((b' : ℕ) → b ≡ suc b' → (c : ℕ) → More b' c) →
      ((c' : ℕ) → c ≡ suc c' → More b c') → More b c
  stand b c nearer on turns places F [] n t u y z = finish turns places (asks F [] n) t (inl refl)
  stand b c nearer on turns places F (s ∷ ss) n t u y z = by (cases_lt (length F) heads)
    where
      next : Next F s ss n → length F < heads → Run
      next (asks_more d turn v) l = go c refl
        where
          go : (c0 : ℕ) → c ≡ c0 → Run
          go zero q = absurd (omega arith)
          go (suc c0) q =
              on c0 q (suc turns) (places ++ []) F (s ∷ ss) (suc n) (and_then t turn) v y
              (omega arith)
      next (finds_one ns G ts turn e v) l = go b refl
        where
          go : (b0 : ℕ) → b ≡ b0 → Run
          go zero q = absurd (omega arith)
          go (suc b0) q =
              nearer b0 q (live P) (suc turns) (places ++ ns) G ts 0 (and_then t turn) v
              (omega arith) (omega arith)

      by : (length F < heads) ⊎ (heads ≤ length F) → Run
      by (inr l) = finish turns places (asks F (s ∷ ss) n) t (inr l)
      by (inl l) = next (next_turn F s ss n u l) l

  go_on : (b c : ℕ) → ((b' : ℕ) → b ≡ suc b' → (c : ℕ) → More b' c) → More b c
  go_on b zero nearer = stand b zero nearer (λ c e. absurd (omega arith))
  go_on b (suc c) nearer = stand b (suc c) nearer (λ c' e. (let q : c ≡ c' = omega arith in
      subst (λ c. More b c) q (go_on b c nearer)))

  go_far : (b c : ℕ) → More b c
  go_far zero c = go_on zero c (λ b e. absurd (omega arith))
  go_far (suc b) c = go_on (suc b) c (λ b' e. (let q : b ≡ b' = omega arith in
      subst (λ b. (c : ℕ) → More b c) q (go_far b)))

  reads : CanBeRead P heads → Run
  reads enough =
      go_far heads (live P) 0 [] [] (whole_term ∷ []) 0 begins (record {
        beside = record { enough = enough; tried = λ t ts z j b. absurd (omega arith) };
        ports = (root, tt);
      }) (omega arith) (omega arith)

pub read_as_it_is : ReadAsItIs
read_as_it_is P heads is_net clear root = (
  λ enough. reads P heads is_net clear root enough,
  λ r. enough_without_heads P P heads r.0 is_net clear r.1,
)
