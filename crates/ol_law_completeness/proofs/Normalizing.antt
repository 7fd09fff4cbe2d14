-- Where leftmost reduction of a term ends in a normal form, each place of the term's own net has a
-- head.
use Rattle.std.proofs.Common.{◌≡◌, ℕ, zero, suc, ◌+◌, ◌≤◌, ◌<◌, true, ◌⊎◌, inl, inr, List, [], ◌∷◌}
use Rattle.std.proofs.Common.{◌++◌, length, Some, None, refl, sym, ap, ◌∙◌, subst, arith}
use Rattle.std.proofs.lemmas.List.{length_push}
use Rattle.ol_net.specs.Nets.{NamedNet}
use Rattle.ol_beta.specs.Leftmost.{leftmost}
use Rattle.ol_term.specs.declared.translations.Translation.{Translation}
use Rattle.ol_translate.specs.Translation.{translation_of}
use Rattle.ol_readback.specs.Frames.{Frame}
use Rattle.ol_readback.specs.ReadTrees.{Subterm, whole_term, framed, port_of, arguments}
use Rattle.ol_readback.specs.Sources.{HaveHeadsOf}
use Rattle.ol_readback.specs.Sources as sources
use Rattle.ol_readback.specs.Terms.{HasAllHeads, abstracted, variable_of}
use Rattle.ol_readback.specs.declared.answers.ReadNode.{ReadNode}
use Rattle.ol_readback.specs.declared.answers.ReadNode.TheVariants as node
use Rattle.ol_readback.proofs.Forests.{frame_last, heads_are_whole}
use Rattle.ol_law_meaning.specs.Contraction.{Tree, var, free, lam, app, Level, Place, HeadStep}
use Rattle.ol_law_meaning.specs.Heads.{Normal, Steps, done, step}
use Rattle.ol_law_meaning.specs.Shows.{ready, contract, LeftmostReduces, applied}
use Rattle.ol_law_meaning.specs.Seen.{Chain, IsChain, scope, WholeSeats}
use Rattle.ol_law_meaning.proofs.Walking.{normal_or_step}
use Rattle.ol_law_meaning.proofs.LeftmostSteps.{leftmost_step, same_step}
use Rattle.ol_law_meaning.proofs.LeftmostRoads.{IsNeutral, arg_leftmost, variable_neutral}
use Rattle.ol_law_meaning.proofs.LeftmostRoads.{abstracted_none, tree_reached}
use Rattle.ol_law_meaning.proofs.Endings.{some_none, rest_of, after_head, within, within_lam, within_arg, no_redex}
use Rattle.ol_law_meaning.proofs.Matched.{chain_grows}
use Rattle.ol_law_meaning.proofs.Showing.{SeenAt, AllSeen, nil, next, headed, chain_more}
use Rattle.ol_law_meaning.proofs.Based.{term_seen, tree_shows}
use Rattle.ol_law_completeness.specs.Complete.{NormalFormHasHeads}
use Rattle.ol_law_completeness.proofs.HeadsFound.{has_head}

-- ---- the head

record Ends (P v : Tree) : Type 0 where
  last : Tree
  many : ℕ
  steps : Steps P last many
  port : Place
  level : Level
  args : ℕ
  normal : Normal last port level args

-- head reduction has an end where leftmost reduction has one
head_ends : {t v : Tree} → LeftmostReduces t v → leftmost v ≡ None → Ends t v
head_ends {t = t} {v = v} ready n = by (normal_or_step t)
  where
    by : ((q : Place) × (a : Level) × (j : ℕ) × Normal t q a j) ⊎ ((t' : Tree) × HeadStep t t') →
        Ends t v
    by (inl k) = record {
      last = t;
      many = 0;
      steps = done;
      port = k.0;
      level = k.1;
      args = k.2;
      normal = k.3;
    }
    by (inr k) = let r = leftmost_step k.1 in absurd (some_none r.0 (sym r.1 ∙ n))
head_ends {t = t} {v = v} (contract {u = w} e f l) n = by (head_ends l n) (normal_or_step t)
  where
    by : Ends w v → ((q : Place) × (a : Level) × (j : ℕ) × Normal t q a j)
        ⊎ ((t' : Tree) × HeadStep t t') → Ends t v
    by x (inl k) = record {
      last = t;
      many = 0;
      steps = done;
      port = k.0;
      level = k.1;
      args = k.2;
      normal = k.3;
    }
    by x (inr k) =
        let r = leftmost_step k.1 in
        let same : k.0 ≡ w = same_step t r.1 r.2 e f in
        record {
          last = x.last;
          many = suc x.many;
          steps = step (subst (HeadStep t) same k.1) x.steps;
          port = x.port;
          level = x.level;
          args = x.args;
          normal = x.normal;
        }

-- ---- what a head normal form ends in

normal_stays : {t v : Tree} → LeftmostReduces t v → leftmost t ≡ None → t ≡ v
normal_stays ready n = refl
normal_stays (contract {at = at} e f l) n = absurd (some_none at (sym e ∙ n))

-- each argument with what it ends in
data Each : List Tree → List Tree → Type 0 where
  none : Each [] []
  more : {P w : Tree} {Ps ws : List Tree} → LeftmostReduces P w → leftmost w ≡ None → Each Ps ws →
      Each (P ∷ Ps) (w ∷ ws)

record ArgsEnd (h : Tree) (Ps : List Tree) (v : Tree) : Type 0 where
  ends : List Tree
  each : Each Ps ends
  is : v ≡ applied h ends

args_end : (h : Tree) → IsNeutral h → (Ps : List Tree) (v : Tree) →
    LeftmostReduces (applied h Ps) v → leftmost v ≡ None → ArgsEnd h Ps v
args_end h n [] v r z = record { ends = []; each = none; is = sym (normal_stays r n.none) }
args_end h n (P ∷ Ps) v r z =
    let e = within (λ P. applied (app h P) Ps) (within_arg h n Ps) r z P refl in
    let t = args_end (app h e.last) (record {
      plain = refl;
      none = arg_leftmost h e.last None n e.normal;
    }) Ps v e.rest z in
    record { ends = e.last ∷ t.ends; each = more e.leads e.normal t.each; is = t.is }

size : Tree → ℕ
size (var k) = 1
size (free k) = 1
size (lam t) = suc (size t)
size (app t u) = suc (size t + size u)

sizes : List Tree → ℕ
sizes [] = 0
sizes (t ∷ ts) = size t + sizes ts

some_size : (t : Tree) → 1 ≤ size t
unfolding size
some_size (var k) = omega arith
some_size (free k) = omega arith
some_size (lam t) = omega arith
some_size (app t u) = omega arith

applied_size : (h : Tree) (Ps : List Tree) → size h + sizes Ps ≤ size (applied h Ps)
unfolding size sizes
applied_size h [] = omega arith
applied_size h (P ∷ Ps) = let r = applied_size (app h P) Ps in omega arith

abstracted_size : (l : ℕ) (t : Tree) → size t ≤ size (abstracted l t)
unfolding size
abstracted_size zero t = omega arith
abstracted_size (suc l) t = let r = abstracted_size l t in omega arith

record TermEnds (l : ℕ) (h : Tree) (Ps : List Tree) (v : Tree) : Type 0 where
  ends : List Tree
  each : Each Ps ends
  smaller : sizes ends < size v

term_ends : (l : ℕ) (h : Tree) → IsNeutral h → (Ps : List Tree) (v : Tree) →
    LeftmostReduces (abstracted l (applied h Ps)) v → leftmost v ≡ None → TermEnds l h Ps v
term_ends l h n Ps v r z =
    let e = within (abstracted l) (within_lam l) r z (applied h Ps) refl in
    let a = args_end h n Ps e.last e.leads e.normal in
    let is : v ≡ abstracted l (applied h a.ends) =
    sym (normal_stays e.rest (abstracted_none l e.last e.normal)) ∙ ap (abstracted l) a.is in
    let x = abstracted_size l (applied h a.ends) in
    let y = applied_size h a.ends in
    let s = some_size h in
    let w : size v ≡ size (abstracted l (applied h a.ends)) = ap size is in
    record { ends = a.ends; each = a.each; smaller = omega arith }

-- ---- places

module _ (τ : Translation) (N : NamedNet ℕ) where
  -- Subterms that are to be read: of each it is known where it is seen, and what it ends in. The
  -- ends have so many nodes in all.
  data Waiting (F : List Frame) : List Subterm → ℕ → Type 1 where
    empty : Waiting F [] 0
    wait : {s : Subterm} {ss : List Subterm} {m : ℕ} {ch : Chain} {P v : Tree} →
        SeenAt τ N ch s.port s.levels P → IsChain F (length F) s.parent ch → LeftmostReduces P v →
        leftmost v ≡ None → Waiting F ss m → Waiting F (s ∷ ss) (size v + m)

  waiting_more : {F : List Frame} {ss : List Subterm} {m : ℕ} (f : Frame) → Waiting F ss m →
      Waiting (F ++ f ∷ []) ss m
  waiting_more f empty = empty
  waiting_more {F = F} f (wait {s = s} {ch = ch} seen c r n w) = let p = length_push F f in
      wait seen (chain_more F (f ∷ []) (length F) (length (F ++ f ∷ [])) s.parent ch (omega arith)
      c) r n (waiting_more f w)

  args_waiting : {F : List Frame} {ss : List Subterm} {m : ℕ} {ch : Chain} (i q : ℕ)
      (ls : List Level) (j k : ℕ) (Ps vs : List Tree) → length Ps ≡ k → AllSeen τ N ch q ls j Ps →
      Each Ps vs → IsChain F (length F) (Some i) ch → Waiting F ss m →
      (m' : ℕ) × (m' ≡ sizes vs + m) × Waiting F (arguments i q ls j k ++ ss) m'
  unfolding sizes
  args_waiting {m = m} i q ls j zero Ps vs e nil none c w = (m, omega arith, w)
  args_waiting i q ls j (suc k) Ps vs e nil none c w = absurd (omega arith)
  args_waiting i q ls j zero Ps vs e (next x a) (more r n t) c w = absurd (omega arith)
  args_waiting {m = m} i q ls j (suc k) Ps vs e (next x a) (more {w = v} {Ps = Qs} {ws = ws} r n t)
      c w =
      let y = args_waiting i q ls (suc j) k Qs ws (omega arith) a t c w in
      let z = y.1 in
      (size v + y.0, omega arith, wait x c r n y.2)

  record Read (F : List Frame) (ss : List Subterm) : Type 0 where
    nodes : List ReadNode
    heads : HaveHeadsOf N true F ss nodes
    all : HasAllHeads nodes

  read : (most : ℕ) {F : List Frame} {ss : List Subterm} {m : ℕ} → m ≤ most → Waiting F ss m →
      Read F ss
  unfolding size
  read most b empty = record { nodes = []; heads = sources.end; all = tt }
  read zero b (wait {m = m} {v = v} seen c r n w) = let s = some_size v in absurd (omega arith)
  read (suc most) {F = F} b (wait {s = s} {ss = ss} {m = m} {ch = ch} {P = P}
      {v = v} seen c r n w) =
      let e = head_ends r n in
      let h = has_head F s seen.seen c e.steps e.port e.level e.args e.normal in
      let g = headed seen.seats F s seen.seen c h.0 h.1 h.2 h.3 h.4 in
      let x = term_ends h.0 (variable_of ((length F, h.0) ∷ scope ch) h.2)
      (variable_neutral ((length F, h.0) ∷ scope ch) h.2) g.args v (after_head
      {u = abstracted h.0 (applied (variable_of ((length F, h.0) ∷ scope ch) h.2) g.args)}
      g.reaches r n)
      n in
      let f = framed s h.0 in
      let p = length_push F f in
      let below : IsChain (F ++ f ∷ []) (length (F ++ f ∷ [])) (Some (length F))
      ((length F, f) ∷ ch) = (
        refl,
        (omega arith),
        (omega arith),
        frame_last F f,
        chain_grows F f (length F) s.parent ch c,
      ) in
      let y = args_waiting (length F) (port_of (F ++ f ∷ []) h.2) h.3 0 h.1 g.args x.ends g.count_is
      g.each x.each below (waiting_more f w) in
      let less = x.smaller in
      let is = y.1 in
      let z = read most {m = y.0} (omega arith) y.2 in
      record {
        nodes = node.Head h.0 h.2 h.1 ∷ z.nodes;
        heads = sources.found {ns = z.nodes} h.4 z.heads;
        all = z.all;
      }

-- ---- a whole term

-- leftmost reductions that end, end in the same
one_end : {t u v : Tree} → LeftmostReduces t u → leftmost u ≡ None → LeftmostReduces t v →
    leftmost v ≡ None → u ≡ v
one_end ready n s m = normal_stays s n
one_end {v = v} (contract e f l) n s m = one_end l n (rest_of e f s m) m

pub normal_form_has_heads : NormalFormHasHeads
normal_form_has_heads τ t names h v r n =
    let z = no_redex v n in
    let x = read τ (translation_of τ t names) (size v + 0) (omega arith) (wait
    {s = whole_term} {ch = []} (record { seats = WholeSeats; seen = term_seen τ t names h }) refl r
    z
    empty) in
    let y = heads_are_whole (translation_of τ t names) true x.nodes x.heads in
    let hs = subst (λ ns. sources.HasHeadsOf (translation_of τ t names) true ns) (sym y.is_list)
    x.heads in
    let all = subst HasAllHeads (sym y.is_list) x.all in
    let e = tree_reached true y.tree t all (tree_shows τ t names h true y.tree hs) in
    (y.tree, hs, all, one_end e.0 e.1 r z)
