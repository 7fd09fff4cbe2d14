-- What a demand run of a term's net asks: its questions begin where a term's places are asked.
use Rattle.std.proofs.Common.{◌≡◌, ℕ, zero, suc, List, [], ◌∷◌, ◌++◌, length, Some, refl, sym, ap, ◌∙◌, subst, arith}
use Rattle.std.proofs.lemmas.List.{length_push}
use Rattle.ol_context.specs.Asked.{os, asked}
use Rattle.ol_context.specs.Contexts.{Level, empty, star, Context, cons, tail, levels}
use Rattle.ol_context.specs.Paths.{Path, HaveSamePaths}
use Rattle.ol_net.specs.Nets.{NamedNet, free, IsNet}
use Rattle.ol_rules.specs.declared.journal.Entry.{Entry}
use Rattle.ol_rules.specs.declared.journal.NodeName.{NodeName}
use Rattle.ol_readback.specs.Frames.{Frame}
use Rattle.ol_readback.specs.Heads.{Answer, head, no_head, matched, NoPath, IsHead}
use Rattle.ol_readback.specs.Heads as heads
use Rattle.ol_readback.specs.ReadTrees.{Subterm, whole_term, framed, port_of, arguments}
use Rattle.ol_readback.specs.declared.answers.HeadVar.{HeadVar}
use Rattle.ol_readback.specs.declared.answers.ReadNode.{ReadNode}
use Rattle.ol_readback.proofs.Forests.{frame_last}
use Rattle.ol_readback.proofs.Kept.{heads_are_kept}
use Rattle.ol_readback.proofs.One.{exit_is_one}
use Rattle.ol_demand.specs.Chains as chain
use Rattle.ol_demand.specs.Chains.{Ends}
use Rattle.ol_demand.specs.Demands.{Asking, asks, IsFound, exits, lost, spent, next, Turn, rewrites}
use Rattle.ol_demand.specs.Demands.{one_more, finds, Turns, begins, and_then}
use Rattle.ol_demand.specs.Laws.{IsStart}
use Rattle.ol_demand.proofs.Chains.{path_at}
use Rattle.ol_demand.proofs.SourceHeads.{Tried, tried_more, tried_none}
use Rattle.ol_demand.proofs.Turning.{turns_kept}
use Rattle.ol_law_meaning.specs.Contraction.{Tree, Place, root}
use Rattle.ol_law_meaning.specs.Heads.{Arg}
use Rattle.ol_law_meaning.specs.Seen.{ahead, Chain, IsChain, Seats, IsSeen, WholeSeats, ArgSeats}
use Rattle.ol_law_meaning.proofs.Based.{term_seen}
use Rattle.ol_law_meaning.proofs.Matched.{chain_grows}
use Rattle.ol_law_meaning.proofs.Shapes.{AreArgs, normal_shape}
use Rattle.ol_law_meaning.proofs.Showing.{exit_of, exit_matches, chain_more, asked_is, is_head_of, port_of_stays}
use Rattle.ol_law_meaning.proofs.Sights.{arg_seen}
use Rattle.ol_law_optimality.specs.Seen.{IsQuestion}
use Rattle.ol_law_meaning.specs.Spots.{place}
use Rattle.ol_term.specs.declared.translations.Translation.{Translation}
use Rattle.ol_translate.specs.Names.{HasNames}
use Rattle.ol_translate.specs.Translation.{translation_of}
use Rattle.ol_law_optimality.proofs.Wanted.{Asks, whole, part}

-- ---- subterms that are to be read

module _ (τ : Translation) (t : Tree) (names : ℕ) (h : HasNames t names) where
  abbrev N : NamedNet ℕ
  N = translation_of τ t names

  -- where a question of the subterm begins in the net, there a question of the whole term begins
  abbrev Leads : Tree → Seats → Type 0
  Leads P S = (x : Place) (v : Level) (c : Context) (q : ℕ) (X : Context) → Asks τ P x v c →
      S x v c q X → Asks τ t (place q) (X 0) (tail X)

  -- the subterm is seen in the net
  record Waits (F : List Frame) (s : Subterm) : Type 1 where
    part : Tree
    chain : Chain
    seats : Seats
    seen : IsSeen τ N chain s.port s.levels part seats
    is_chain : IsChain F (length F) s.parent chain
    leads : Leads part seats

  data AllWait (F : List Frame) : List Subterm → Type 1 where
    none : AllWait F []
    more : {s : Subterm} {ss : List Subterm} → Waits F s → AllWait F ss → AllWait F (s ∷ ss)

  first : {F : List Frame} {s : Subterm} {ss : List Subterm} → AllWait F (s ∷ ss) → Waits F s
  first (more w ws) = w

  others : {F : List Frame} {s : Subterm} {ss : List Subterm} → AllWait F (s ∷ ss) → AllWait F ss
  others (more w ws) = ws

  wait_on : {F : List Frame} {ss : List Subterm} (f : Frame) → AllWait F ss → AllWait (F ++ f ∷ []) ss
  wait_on f none = none
  wait_on {F = F} f (more {s = s} w ws) =
      let n = length_push F f in
      more (record {
        part = w.part;
        chain = w.chain;
        seats = w.seats;
        seen = w.seen;
        is_chain = chain_more F (f ∷ []) (length F) (length (F ++ f ∷ [])) s.parent w.chain (omega arith) w.is_chain;
        leads = w.leads;
      }) (wait_on f ws)

  whole_waits : Waits [] whole_term
  whole_waits = record {
    part = t;
    chain = [];
    seats = WholeSeats;
    seen = term_seen τ t names h;
    is_chain = refl;
    leads = λ x v c q X a s. subst (λ (X : Context). Asks τ t (place q) (X 0) (tail X)) (sym s.1)
        (subst (λ x. Asks τ t x v c) s.0 a);
  }

  -- ---- the arguments of a head that was found

  arguments_wait : (F : List Frame) (i q : ℕ) (ls : List Level) (u : Tree) →
      ((j : ℕ) (Q : Tree) → Arg u j Q → Waits F
      (record { port = q; levels = ls ++ os j (star empty) ∷ []; parent = Some i })) →
      (j k : ℕ) (Ps : List Tree) → length Ps ≡ k → AreArgs u j Ps → (ss : List Subterm) →
      AllWait F ss → AllWait F (arguments i q ls j k ++ ss)
  arguments_wait F i q ls u f j zero [] e a ss w = w
  arguments_wait F i q ls u f j zero (P ∷ Ps) e a ss w = absurd (omega arith)
  arguments_wait F i q ls u f j (suc k) [] e a ss w = absurd (omega arith)
  arguments_wait F i q ls u f j (suc k) (P ∷ Ps) e a ss w = more (f j P a.0)
      (arguments_wait F i q ls u f (suc j) k Ps (omega arith) a.1 ss w)

  found_wait : (F : List Frame) (s : Subterm) (ss : List Subterm) (n k : ℕ) (v : HeadVar) (ls : List Level) →
      IsHead N (F ++ framed s 0 ∷ []) (length F) (head n v k ls) → Waits F s → AllWait F ss →
      AllWait (F ++ framed s n ∷ []) (arguments (length F) (port_of (F ++ framed s n ∷ []) v) ls 0 k ++ ss)
  found_wait F s ss n k v ls h w ws =
      let r = is_head_of h in
      let e = exit_of F s w.seen w.is_chain n r.port r.context r.few r.path in
      let one = exit_is_one (F ++ framed s 0 ∷ []) (length F) n r.port r.context (head n v k ls)
      (head n e.says.says.variable e.args e.says.first) (matched r.match)
      (matched (exit_matches F s w.seen w.is_chain n r.port r.context e)) in
      let ev : v ≡ e.says.says.variable = cc in
      let ek : k ≡ e.args = cc in
      let el : ls ≡ e.says.first = cc in
      let shape = normal_shape e.normal in
      let f = framed s n in
      let l = length_push F f in
      let port : port_of (F ++ f ∷ []) v ≡ r.port = ap (port_of (F ++ f ∷ [])) ev
      ∙ port_of_stays F f (framed s 0) e.says.says.variable refl ∙ e.says.says.port in
      let below : IsChain (F ++ f ∷ []) (length (F ++ f ∷ [])) (Some (length F)) ((length F, f) ∷ w.chain) = (
        refl,
        (omega arith),
        (omega arith),
        frame_last F f,
        chain_grows F f (length F) s.parent w.chain w.is_chain,
      ) in
      arguments_wait (F ++ f ∷ []) (length F) (port_of (F ++ f ∷ []) v) ls e.last
      (λ i Q a. record {
        part = Q;
        chain = (length F, f) ∷ w.chain;
        seats = ArgSeats τ e.leads a w.seats;
        seen = subst (λ ls. IsSeen τ N ((length F, f) ∷ w.chain) (port_of (F ++ f ∷ []) v)
            (ls ++ os i (star empty) ∷ []) Q (ArgSeats τ e.leads a w.seats)) (sym el)
            (subst (λ q. IsSeen τ N ((length F, f) ∷ w.chain) q
            (e.says.first ++ os i (star empty) ∷ []) Q (ArgSeats τ e.leads a w.seats)) (sym port)
            (arg_seen w.seen e.leads a (length F) f refl refl e.lams e.place e.inner e.level e.args
            e.normal e.same r.port e.says.first e.says.stands));
        is_chain = below;
        leads = λ x v c q X g z. w.leads z.0 z.4 z.2 q X (part z.1 e.leads a g z.3 z.5) z.6;
      })
      0 k shape.args (shape.count ∙ sym ek) shape.each ss (wait_on f ws)

  -- ---- the turns of a demand run

  module _ (R M : NamedNet NodeName) (is_net : IsNet M) (paths : HaveSamePaths R M)
      (same : HaveSamePaths N R) (F : List Frame) (s : Subterm) (ss : List Subterm) (n : ℕ)
      (y : Tried R (asks F (s ∷ ss) n)) where
    is_head : {end : chain.End NodeName} {a : Answer} {n' k : ℕ} {v : HeadVar} {ls : List Level} →
        IsFound M F s n end a → a ≡ head n' v k ls → Ends M s.port (asked s.levels n) end →
        IsHead R (F ++ framed s 0 ∷ []) (length F) a
    is_head (exits {q = q} {X = X} {a = a} m) e h =
        let z = frame_last F (framed s 0) in
        heads.leaves {n = n} {q = q} {X = X}
        (λ m b. subst (λ (f : Frame). NoPath R f.port (asked f.levels m)) (sym z) (y s ss refl m b))
        (subst (λ (f : Frame). Path R (free f.port) (asked f.levels n) q X) (sym z)
        ((paths s.port (asked s.levels n) q X).1 (path_at M is_net s.port (asked s.levels n) q X h))) m
    is_head (lost b) e h = absurd (cc)
    is_head spent e h = absurd (cc)

    next_wait : {end : chain.End NodeName} (a : Answer) → IsFound M F s n end a →
        Ends M s.port (asked s.levels n) end → AllWait F (s ∷ ss) →
        AllWait (next F s ss a).frames (next F s ss a).waiting
    next_wait (head n' v k ls) f h w =
        let i = is_head f refl h in
        found_wait F s ss n' k v ls (heads_are_kept R N
        (λ p c q X. ((same p c q X).1, (same p c q X).0)) (F ++ framed s 0 ∷ []) (length F)
        (head n' v k ls) i) (first w) (others w)
    next_wait no_head f h w = wait_on (framed s 0) (others w)
    next_wait heads.budget f h w = wait_on (framed s 0) (others w)

  turn_waits : (R M P : NamedNet NodeName) (many ticket : ℕ) (es : List Entry) (ns : List ReadNode)
      (a b : Asking) → IsNet M → HaveSamePaths R M → HaveSamePaths N R → Turn many M ticket a es ns P b →
      AllWait a.frames a.waiting → Tried R a → AllWait b.frames b.waiting × Tried R b
  turn_waits R M P many ticket es ns a b is_net paths same (rewrites m) w y = (w, y)
  turn_waits R M P many ticket es ns a b is_net paths same
      (one_more {F = F} {s = s} {ss = ss} {n = n} h l) w y = (w, tried_more R M is_net paths F s ss n h.ends y)
  turn_waits R M P many ticket es ns a b is_net paths same (finds {F = F} {s = s} {ss = ss} {n = n} {a = c} h f) w y =
      (next_wait R M is_net paths same F s ss n y c f h.ends w, tried_none R F s ss c)

  turns_wait : {R : NamedNet NodeName} {many : ℕ} {M : NamedNet NodeName} {turns : ℕ}
      {journal : List Entry} {places : List ReadNode} {a : Asking} → IsStart R → HaveSamePaths N R →
      Turns R many turns journal places M a → AllWait a.frames a.waiting × Tried R a
  turns_wait s same begins = (more whole_waits none, λ t ts e m b. absurd (omega arith))
  turns_wait {R = R} {many = many} s same
      (and_then {journal = journal} {es = es} {ns = ns} {M = M} {P = P} {a = a} {b = b} r t) =
      let k = turns_kept s r in
      let w = turns_wait s same r in
      turn_waits R M P many (length journal) es ns a b k.net k.paths same t w.0 w.1

  -- ---- and its questions

  pub question_asks : (R : NamedNet NodeName) → IsStart R → HaveSamePaths N R →
      (many p : ℕ) (c : Context) → IsQuestion R many p c → Asks τ t (place p) (c 0) (tail c)
  question_asks R s same many p c q =
      let w = first (turns_wait s same q.made).0 in
      let X = ahead q.subterm.levels (cons (os q.lams empty) (levels [])) in
      let a = w.leads root (os q.lams empty) (levels []) q.subterm.port X (whole q.lams refl)
      (w.seen.at_root (os q.lams empty) (levels [])) in
      subst (λ p. Asks τ t (place p) (c 0) (tail c)) (sym q.port_is)
      (subst (λ (c : Context). Asks τ t (place q.subterm.port) (c 0) (tail c))
      (sym (q.context_is ∙ asked_is q.subterm.levels q.lams)) a)
