-- The turns of demand order beside a net from which the places can be read: each pair is met by a
-- chain that meets none in that net.
use Rattle.std.proofs.Common.{◌≡◌, ℕ, suc, ◌+◌, ◌<◌, ◌≤◌, ◌⊎◌, inl, inr, List, [], ◌∷◌, ◌++◌}
use Rattle.std.proofs.Common.{length, refl, sym, subst, arith, append-nil}
use Rattle.std.proofs.lemmas.Bool.{cases_lt}
use Rattle.ol_net.specs.Nets.{NamedNet, free, IsNet}
use Rattle.ol_context.specs.Contexts.{Context}
use Rattle.ol_context.specs.Paths.{Path, HaveSamePaths}
use Rattle.ol_rules.specs.declared.journal.NodeName.{NodeName}
use Rattle.ol_rules.specs.declared.journal.Entry.{Entry}
use Rattle.ol_rules.specs.Runs.{IsEntryStep}
use Rattle.ol_readback.specs.Frames.{Frame, asked}
use Rattle.ol_readback.specs.Heads.{Answer, head, no_head, NoPath, IsMatched, matched, unmatched}
use Rattle.ol_readback.specs.ReadTrees.{Subterm, whole_term, framed}
use Rattle.ol_readback.specs.declared.answers.ReadNode.{ReadNode}
use Rattle.ol_readback.proofs.One.{exit_is_one}
use Rattle.ol_demand.specs.Chains as chain
use Rattle.ol_demand.specs.Chains.{Ends}
use Rattle.ol_demand.specs.Demands.{Asking, asks, ChainEnds, Meets, IsFound, exits, lost, spent}
use Rattle.ol_demand.specs.Demands.{next, Turn, rewrites, one_more, finds, Turns, begins, and_then}
use Rattle.ol_demand.specs.Laws.{IsStart}
use Rattle.ol_demand.proofs.Chains.{no_path_at, path_at}
use Rattle.ol_demand.proofs.Turning.{turns_kept}
use Rattle.ol_law_completeness.specs.Laws.{CrossesNoStuck}
use Rattle.ol_law_completeness.specs.Complete.{StaysClear}
use Rattle.ol_law_completeness.specs.Least.{IsEnough, past, place, unknown, headless, MeetsNone}
use Rattle.ol_law_completeness.proofs.Ending.{exit_here}
use Rattle.ol_law_completeness.proofs.Frozen.{leaves_of, not_both}
use Rattle.ol_law_completeness.proofs.Tracing.{chain_is_on_path, chains_meet_alike}
use Rattle.ol_demand.proofs.SourceHeads.{first_is}

-- A step of a pair that a chain meets, which meets none in net P.
pub record MetStep (P : NamedNet NodeName) (M : NamedNet NodeName) (t : ℕ) (e : Entry)
    (K : NamedNet NodeName) : Type 0 where
  pub step : IsEntryStep M t e K
  pub port : ℕ
  pub context : Context
  pub none : MeetsNone P port context
  pub meets : Ends M port context (chain.met step.f step.g e.rule)

pub data MetRun (P : NamedNet NodeName) : NamedNet NodeName → ℕ → List Entry → NamedNet NodeName →
    Type 0 where
  end : {N : NamedNet NodeName} {t : ℕ} → MetRun P N t [] N
  then : {N M K : NamedNet NodeName} {t : ℕ} {e : Entry} {es : List Entry} → MetStep P N t e K →
      MetRun P K (suc t) es M → MetRun P N t (e ∷ es) M

met_on : {P N M K : NamedNet NodeName} {t : ℕ} {es : List Entry} (t' : ℕ) (e : Entry) →
    MetRun P N t es M → t' ≡ t + length es → MetStep P M t' e K → MetRun P N t (es ++ e ∷ []) K
met_on {P} {N} {K = K} {t = t} t' e end q s = let z : t' ≡ t = omega arith in
    then (subst (λ t. MetStep P N t e K) z s) end
met_on t' e (then x r) q s = then x (met_on t' e r (omega arith) s)

module _ (P : NamedNet NodeName) (is_net' : IsNet P) (most heads : ℕ) (below : heads ≤ most) where
  pub record Beside (M : NamedNet NodeName) (a : Asking) : Type 0 where
    pub enough : IsEnough P most a.frames a.waiting
    pub tried : (s : Subterm) (ss : List Subterm) → a.waiting ≡ s ∷ ss → (j : ℕ) → j < a.lams →
        NoPath M s.port (asked s.levels j)

  module _ (M : NamedNet NodeName) (is_net : IsNet M) (clear : CrossesNoStuck M)
      (paths : HaveSamePaths P M) (F : List Frame) (s : Subterm) (ss : List Subterm) (n : ℕ)
      (u : Beside M (asks F (s ∷ ss) n)) where
    pub not_tried : (n0 q : ℕ) (X : Context) → Path M (free s.port) (asked s.levels n0) q X → n ≤ n0
    not_tried n0 q X t = by (cases_lt n0 n)
      where
        by : (n0 < n) ⊎ (n ≤ n0) → n ≤ n0
        by (inl b) = absurd (u.tried s ss refl n0 b q X t)
        by (inr b) = b

    -- the path of the place in net M
    pub path_of : (n0 q : ℕ) (X : Context) → Ends P s.port (asked s.levels n0) (chain.left q X) →
        Path M (free s.port) (asked s.levels n0) q X
    path_of n0 q X e =
        (paths s.port (asked s.levels n0) q X).0 (path_at P is_net' s.port (asked s.levels n0) q X
        e)

    pub none_of : (n0 : ℕ) → ((j : ℕ) → j < n0 → NoPath P s.port (asked s.levels j)) → (j : ℕ) →
        j < n0 → NoPath M s.port (asked s.levels j)
    none_of n0 few j b q X r = few j b q X ((paths s.port (asked s.levels j) q X).1 r)

    met_step : (t : ℕ) (e : Entry) (K : NamedNet NodeName) → Meets heads M t F s n e K →
        MetStep P M t e K
    met_step t e K m = by u.enough
      where
        on_path : (n0 q : ℕ) (X : Context) → Ends P s.port (asked s.levels n0) (chain.left q X) →
            MetStep P M t e K
        on_path n0 q X x = record {
          step = m.step;
          port = s.port;
          context = asked s.levels n0;
          none = λ f g r y. not_both P is_net' s.port (asked s.levels n0) f g r y (leaves_of x);
          meets = chains_meet_alike M is_net clear s.port s.levels n0 q X (path_of n0 q X x) n
              m.step.f m.step.g e.rule (not_tried n0 q X (path_of n0 q X x)) m.ends.ends;
        }

        by : IsEnough P most F (s ∷ ss) → MetStep P M t e K
        by (past b) = let c = m.ends.below in absurd (omega arith)
        by (headless nowhere none rest) = record {
          step = m.step;
          port = s.port;
          context = asked s.levels n;
          none = none n;
          meets = m.ends.ends;
        }
        by (place {n = n0} {q = q} {X = X} few x match rest) = on_path n0 q X x
        by (unknown {n = n0} {q = q} {X = X} few x nothing rest) = on_path n0 q X x

    pub one_more_beside : ChainEnds heads M F s n chain.undefined → Beside M (asks F (s ∷ ss) (suc n))
    one_more_beside h = record { enough = u.enough; tried = tried }
      where
        tried : (t : Subterm) (ts : List Subterm) → s ∷ ss ≡ t ∷ ts → (j : ℕ) → j < suc n →
            NoPath M t.port (asked t.levels j)
        tried t ts e j b = by (cases_lt j n)
          where
            by : (j < n) ⊎ (n ≤ j) → NoPath M t.port (asked t.levels j)
            by (inl c) = u.tried t ts e j c
            by (inr c) =
                let z : n ≡ j = omega arith in
                subst (λ j. NoPath M t.port (asked t.levels j)) z
                (subst (λ (t : Subterm). NoPath M t.port (asked t.levels n))
                (first_is s t ss ts e) (λ q X r. no_path_at M is_net s.port (asked s.levels n)
                h.ends q X r))

    -- what its exit says there is found here
    found_there : (n0 q : ℕ) (X : Context) (b : Answer) → ((j : ℕ) → j < n0 →
        NoPath P s.port (asked s.levels j)) → Ends P s.port (asked s.levels n0) (chain.left q X) →
        IsMatched (F ++ framed s 0 ∷ []) (length F) n0 q X b → {end : chain.End NodeName}
        {a : Answer} → IsFound M F s n end a → ChainEnds heads M F s n end → (n ≡ n0) × (b ≡ a)
    found_there n0 q X b few x match (lost l) h =
        let path = path_of n0 q X x in
        let c = chain_is_on_path M is_net clear s.port s.levels n0 q X path n chain.undefined
        (not_tried n0 q X path) h.ends in
        let d = c.1 in
        absurd (omega arith)
    found_there n0 q X b few x match spent h =
        let path = path_of n0 q X x in
        absurd (chain_is_on_path M is_net clear s.port s.levels n0 q X path n chain.budget
        (not_tried n0 q X path) h.ends)
    found_there n0 q X b few x match {a = a} (exits {q = q'} {X = X'} y) h =
        let path = path_of n0 q X x in
        let o = exit_here M is_net F s n n0 q q' X X' b (none_of n0 few) path match
        (not_tried n0 q X path) h.ends in
        (o.0, exit_is_one (F ++ framed s 0 ∷ []) (length F) n q' X' b a o.1 y)

    pub finds_beside : (end : chain.End NodeName) (a : Answer) → ChainEnds heads M F s n end →
        IsFound M F s n end a → Beside M (next F s ss a)
    finds_beside last a h f = by u.enough f h
      where
        by : {end : chain.End NodeName} {a : Answer} → IsEnough P most F (s ∷ ss) →
            IsFound M F s n end a → ChainEnds heads M F s n end → Beside M (next F s ss a)
        by (headless nowhere none rest) (exits {q = q} {X = X} y) h =
            absurd (nowhere n q X ((paths s.port (asked s.levels n) q X).1
            (path_at M is_net s.port (asked s.levels n) q X h.ends)))
        by (headless nowhere none rest) (lost b) h = record {
          enough = rest;
          tried = λ t ts e j c. absurd (omega arith);
        }
        by (headless nowhere none rest) spent h = record {
          enough = rest;
          tried = λ t ts e j c. absurd (omega arith);
        }
        by (past b) f h = let c = h.below in absurd (omega arith)
        by {a = a} (place {n = n0} {q = q} {k = k} {X = X} {v = v} {ls = ls} few x match rest) f h =
            let o = found_there n0 q X (head n0 v k ls) few x (matched match) f h in
            subst (λ a. Beside M (next F s ss a)) o.1 (record {
              enough = rest;
              tried = λ t ts e j b. absurd (omega arith);
            })
        by {a = a} (unknown {n = n0} {q = q} {X = X} few x nothing rest) f h =
            let o = found_there n0 q X no_head few x (unmatched nothing) f h in
            subst (λ a. Beside M (next F s ss a)) o.1 (record {
              enough = rest;
              tried = λ t ts e j b. absurd (omega arith);
            })

  pub record After (N M : NamedNet NodeName) (journal : List Entry) (a : Asking) : Type 0 where
    pub beside : Beside M a
    pub met : MetRun P N 0 journal M

  kept_tried : (M K : NamedNet NodeName) (a : Asking) → HaveSamePaths M K → Beside M a → Beside K a
  kept_tried M K a paths u = record {
    enough = u.enough;
    tried = λ s ss e j b q X r. u.tried s ss e j b q X ((paths s.port (asked s.levels j) q X).1 r);
  }

  turn_beside : (N M K : NamedNet NodeName) (journal es : List Entry) (ns : List ReadNode)
      (a b : Asking) → IsNet M → CrossesNoStuck M → HaveSamePaths P M → HaveSamePaths P K →
      Turn heads M (length journal) a es ns K b → After N M journal a → After N K (journal ++ es) b
  turn_beside N M K journal es ns a b is_net clear paths paths' (rewrites {F = F} {s = s}
      {ss = ss} {n = n} {e = e} m) u = record {
        beside = kept_tried M K (asks F (s ∷ ss) n) (λ p c q X. (
          λ r. (paths' p c q X).0 ((paths p c q X).1 r),
          λ r.
              (paths p c q X).0 ((paths' p c q X).1 r),
        )) u.beside;
        met = met_on (length journal) e u.met (omega arith) (met_step M is_net clear paths F s ss n
            u.beside (length journal) e K m);
      }
  turn_beside N M K journal es ns a b is_net clear paths paths' (one_more {F = F} {s = s}
      {ss = ss} {n = n} h l) u = record {
        beside = one_more_beside M is_net clear paths F s ss n u.beside h;
        met = subst (λ (es : List Entry). MetRun P N 0 es M) (sym (append-nil journal)) u.met;
      }
  turn_beside N M K journal es ns a b is_net clear paths paths' (finds {F = F} {s = s}
      {ss = ss} {n = n} {end = last} {a = c} h f) u = record {
        beside = finds_beside M is_net clear paths F s ss n u.beside last c h f;
        met = subst (λ (es : List Entry). MetRun P N 0 es M) (sym (append-nil journal)) u.met;
      }

  pub turns_beside : {N M : NamedNet NodeName} {turns : ℕ} {journal : List Entry}
      {places : List ReadNode} {a : Asking} → IsStart N → StaysClear N → HaveSamePaths N P →
      IsEnough P most [] (whole_term ∷ []) → Turns N heads turns journal places M a →
      After N M journal a
  turns_beside s clear same e begins = record {
    beside = record { enough = e; tried = λ t ts z j b. absurd (omega arith) };
    met = end;
  }
  turns_beside {N = N} s clear same e (and_then {journal = journal} {es = es} {ns = ns} {M = M}
      {P = K} {a = a} {b = b} y t) =
      let k = turns_kept s y in
      let k' = turns_kept s (and_then y t) in
      let from : (L : NamedNet NodeName) → HaveSamePaths N L →
      HaveSamePaths P L = λ L h p c q X. (
        λ r. (h p c q X).0 ((same p c q X).1 r),
        λ r. (same p c q X).0 ((h p c q X).1 r),
      ) in
      turn_beside N M K journal es ns a b k.net (clear journal M k.run) (from M k.paths)
      (from K k'.paths) t (turns_beside s clear same e y)

  pub met_run : {N M : NamedNet NodeName} {turns : ℕ} {journal : List Entry}
      {places : List ReadNode} {a : Asking} → IsStart N → StaysClear N → HaveSamePaths N P →
      IsEnough P most [] (whole_term ∷ []) → Turns N heads turns journal places M a →
      MetRun P N 0 journal M
  met_run s clear same e t = (turns_beside s clear same e t).met
