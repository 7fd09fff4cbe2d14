-- A tree that has the heads of a term's net shows the term.
use Rattle.std.proofs.Common.{◌≡◌, ℕ, zero, suc, ◌+◌, ◌<◌, ◌≤◌, Bool, true, false, List, [], ◌∷◌, ◌++◌, length, Option}
use Rattle.std.proofs.Common.{Some, None, refl, sym, ap, ◌∙◌, subst, arith, append_assoc, length-append}
use Rattle.std.proofs.lemmas.List.{append-nil, get_or_append_left, length_push}
use Rattle.ol_net.specs.Nets.{NamedNet, free}
use Rattle.ol_context.specs.Paths.{Path}
use Rattle.ol_context.specs.Contexts.{levels}
use Rattle.ol_context.proofs.LevelLists.{levels_cons}
use Rattle.ol_readback.specs.Frames.{Frame, frame_at, asked}
use Rattle.ol_readback.specs.Frames as frames
use Rattle.ol_readback.specs.Matching.{Matches}
use Rattle.ol_readback.specs.Heads.{Answer, head, no_head, IsMatched, matched, unmatched, NoPath, IsHead}
use Rattle.ol_readback.specs.Heads as heads
use Rattle.ol_readback.specs.ReadTrees.{Subterm, framed, port_of, arguments}
use Rattle.ol_readback.specs.Sources.{HaveHeadsOf}
use Rattle.ol_readback.specs.Sources as sources
use Rattle.ol_readback.specs.Whole.{Part, term, lost, cut, none, more, count, preorder}
use Rattle.ol_readback.specs.Terms.{abstracted, variable_of}
use Rattle.ol_readback.specs.declared.answers.HeadVar.{HeadVar}
use Rattle.ol_readback.specs.declared.answers.HeadVar.TheVariants as var
use Rattle.ol_readback.specs.declared.answers.ReadNode.{ReadNode}
use Rattle.ol_readback.specs.declared.answers.ReadNode.TheVariants as node
use Rattle.ol_readback.proofs.One.{exit_is_one}
use Rattle.ol_readback.proofs.Forests.{frame_last}
use Rattle.ol_law_meaning.specs.Spots.{applications}
use Rattle.ol_law_meaning.specs.Contraction.{Tree, Level, empty, star, Context, cons, Place, root, at, Leads}
use Rattle.ol_law_meaning.specs.Heads.{os, outer, Normal, Steps, SameAlong, Arg}
use Rattle.ol_law_meaning.specs.Seen.{ahead, Chain, IsChain, scope, Seats, IsSeen, ArgSeats}
use Rattle.ol_law_meaning.specs.Shows.{HeadReduces, HeadReducesForever, applied, IsHeadNormal, Shows}
use Rattle.ol_law_meaning.proofs.Walking.{least, found, is_found}
use Rattle.ol_law_meaning.proofs.Shapes.{normal_is, occurrence, AreArgs, normal_shape, normal_of}
use Rattle.ol_law_meaning.proofs.Endless.{forever}
use Rattle.ol_law_meaning.proofs.HeadSteps.{as_steps, reduces}
use Rattle.ol_law_meaning.proofs.Sights.{ahead_levels, arg_seen}
use Rattle.ol_law_meaning.proofs.Matched.{ended, chain_grows, HeadSays, head_says}
use Rattle.ol_term.specs.declared.translations.Translation.{Translation}

pub asked_is : (ls : List Level) (n : ℕ) → asked ls n ≡ ahead ls (cons (os n empty) (levels []))
asked_is ls n = sym (ahead_levels ls (os n empty ∷ [])) ∙ ap (ahead ls) (levels_cons (os n empty) [])

ended_is : (j : ℕ) → cons (os j empty) (levels []) ≡ ended j
ended_is j = sym (levels_cons (os j empty) [])

module _ {τ : Translation} where
  -- ---- the head of one subterm

  -- a path of its frame crosses as many applications as head steps lead from a subterm to a head normal form, or more
  pub reached_soon : {A : Type 0} {N : NamedNet A} {ch : Chain} {P : Tree} {S : Seats}
      (s : Subterm) → IsSeen τ N ch s.port s.levels P S →
      (n q : ℕ) (X : Context) (r : Path N (free s.port) (asked s.levels n) q X) →
      (u : Tree) × (m : ℕ) × (m ≤ applications r) × Steps P u m × IsHeadNormal u
  reached_soon {N = N} {P = P} s seen n q X r =
      let c = ahead s.levels (cons (os n empty) (levels [])) in
      let t = subst (λ c. (t : Path N (free s.port) c q X) × (applications t ≡ applications r))
      (asked_is s.levels n) (r, refl) in
      let b = seen.back root (os n empty) (levels []) s.port q c X (seen.at_root (os n empty) (levels [])) t.0 in
      let x = found P b.0 b.1 (levels []) b.2 n b.3 b.5 in
      let few : x.1 ≤ applications r =
      (
      let i : x.1 ≤ b.3 = x.3 in
      let j : b.3 ≤ applications t.0 = b.6 in
      let k : applications t.0 ≡ applications r = t.1 in
      omega arith
      ) in
      (x.0, x.1, few, x.2, normal_is x.6)

-- where a path of the least number n of abstractions leaves, by port q with context X
pub record Exit (τ : Translation) {A : Type 0} (N : NamedNet A) (ch : Chain) (F : List Frame)
    (s : Subterm) (P : Tree) (S : Seats) (n q : ℕ) (X : Context) : Type 0 where
  pub last : Tree
  pub steps : ℕ
  pub leads : Steps P last steps
  pub place : Place
  pub inner : Level
  pub level : Level
  pub args : ℕ
  pub normal : Normal last place inner args
  pub same : SameAlong τ leads place level inner
  pub lams : n ≡ outer last
  pub says : HeadSays (F ++ framed s 0 ∷ []) q X (length F) (outer last) args
      ((length F, outer last) ∷ scope ch) (occurrence (normal_shape normal).wire_is) (λ q c X. S place level c q X)

module _ {τ : Translation} {A : Type 0} {N : NamedNet A} {ch : Chain} {P : Tree} {S : Seats}
    (F : List Frame) (s : Subterm) (seen : IsSeen τ N ch s.port s.levels P S)
    (chain : IsChain F (length F) s.parent ch) where
  -- what is asked of the subterm's frame
  pub from_asked : (n q : ℕ) (X : Context) →
      Path N (free (frame_at (F ++ framed s 0 ∷ []) (length F)).port)
      (asked (frame_at (F ++ framed s 0 ∷ []) (length F)).levels n) q X →
      Path N (free s.port) (ahead s.levels (cons (os n empty) (levels []))) q X
  from_asked n q X r = subst (λ c. Path N (free s.port) c q X) (asked_is s.levels n)
      (subst (λ (f : Frame). Path N (free f.port) (asked f.levels n) q X) (frame_last F (framed s 0)) r)

  to_asked : (n q : ℕ) (X : Context) → Path N (free s.port) (ahead s.levels (cons (os n empty) (levels []))) q X →
      Path N (free (frame_at (F ++ framed s 0 ∷ []) (length F)).port)
      (asked (frame_at (F ++ framed s 0 ∷ []) (length F)).levels n) q X
  to_asked n q X r = subst (λ (f : Frame). Path N (free f.port) (asked f.levels n) q X)
      (sym (frame_last F (framed s 0))) (subst (λ c. Path N (free s.port) c q X) (sym (asked_is s.levels n)) r)

  -- a number of abstractions that leads on in the subterm has a path
  pub leads_path : (n k : ℕ) (y : Place) (w : Level) (d : Context) →
      Leads τ P (at root (os n empty) (levels [])) (at y w d) k →
      (q : ℕ) × (X : Context) × Path N (free (frame_at (F ++ framed s 0 ∷ []) (length F)).port)
      (asked (frame_at (F ++ framed s 0 ∷ []) (length F)).levels n) q X
  leads_path n k y w d l =
      let a = seen.forth root y (os n empty) w (levels []) d k s.port
      (ahead s.levels (cons (os n empty) (levels []))) (seen.at_root (os n empty) (levels [])) l in
      (a.0, a.1, to_asked n a.0 a.1 a.3)

  pub exit_of : (n q : ℕ) (X : Context) →
      ((m : ℕ) → m < n → NoPath N (frame_at (F ++ framed s 0 ∷ []) (length F)).port
      (asked (frame_at (F ++ framed s 0 ∷ []) (length F)).levels m)) →
      Path N (free (frame_at (F ++ framed s 0 ∷ []) (length F)).port)
      (asked (frame_at (F ++ framed s 0 ∷ []) (length F)).levels n) q X → Exit τ N ch F s P S n q X
  exit_of n q X few r =
      let b = seen.back root (os n empty) (levels []) s.port q
      (ahead s.levels (cons (os n empty) (levels []))) X (seen.at_root (os n empty) (levels []))
      (from_asked n q X r) in
      let x = least P b.0 b.1 (levels []) b.2 n b.3 b.5
      (λ m k y w d h l. (let t = leads_path m k y w d l in few m h t.0 t.1 t.2)) in
      record {
        last = x.0;
        steps = x.1;
        leads = x.2;
        place = b.0;
        inner = x.4;
        level = b.1;
        args = x.5;
        normal = x.6;
        same = x.7;
        lams = x.8;
        says = head_says seen x.2 F (framed s 0) refl refl chain
            (normal_shape x.6).wire_is b.0 x.4 b.1 x.5 q X (normal_shape x.6).outs x.7
            (subst (λ c. S b.0 b.1 c q X) (x.9 ∙ ended_is x.5) b.4);
      }

  -- it matches
  pub exit_matches : (n q : ℕ) (X : Context) (e : Exit τ N ch F s P S n q X) →
      Matches (F ++ framed s 0 ∷ []) q X (length F) n e.says.says.variable e.args e.says.first
  exit_matches n q X e =
      subst (λ X. Matches (F ++ framed s 0 ∷ []) q X
      (length F) n e.says.says.variable e.args e.says.first) (sym e.says.exit)
      (subst (λ n. Matches (F ++ framed s 0 ∷ []) q (ahead e.says.first (ended e.args))
      (length F) n e.says.says.variable e.args e.says.first) (sym e.lams) e.says.says.match)

  -- ---- no head

  comes_to_none : (u : Tree) → HeadReduces P u → IsHeadNormal u → IsHead N (F ++ framed s 0 ∷ []) (length F) no_head → ⊥
  comes_to_none u r g h = by h
    where
      by : IsHead N (F ++ framed s 0 ∷ []) (length F) no_head → ⊥
      by (heads.never f) =
          let k = normal_of g in
          let x = is_found (as_steps r).1 k.0 k.1 k.2 (levels []) k.3 in
          let t = leads_path (outer u) x.2 k.0 x.0 (cons (os k.2 empty) (levels [])) x.3 in
          f (outer u) t.0 t.1 t.2
      by (heads.leaves {n = n} {q = q} {X = X} few t (unmatched z)) =
          let e = exit_of n q X few t in
          z e.says.says.variable e.args e.says.first (exit_matches n q X e)

  pub no_head_is : IsHead N (F ++ framed s 0 ∷ []) (length F) no_head → HeadReducesForever P
  no_head_is h = forever P (λ u r g. comes_to_none u r g h)

-- ---- the arguments

pub record SeenAt (τ : Translation) {A : Type 0} (N : NamedNet A) (ch : Chain) (p : ℕ)
    (ls : List Level) (P : Tree) : Type 1 where
  pub seats : Seats
  pub seen : IsSeen τ N ch p ls P seats

-- the arguments from number j on, each where its frame is
pub data AllSeen (τ : Translation) {A : Type 0} (N : NamedNet A) (ch : Chain) (q : ℕ)
    (ls : List Level) : ℕ → List Tree → Type 1 where
  nil : {j : ℕ} → AllSeen τ N ch q ls j []
  next : {j : ℕ} {P : Tree} {Ps : List Tree} → SeenAt τ N ch q (ls ++ os j (star empty) ∷ []) P →
      AllSeen τ N ch q ls (suc j) Ps → AllSeen τ N ch q ls j (P ∷ Ps)

module _ {τ : Translation} where
  all_seen : {A : Type 0} (N : NamedNet A) (ch : Chain) (q : ℕ) (ls : List Level) (u : Tree) →
      ((i : ℕ) (Q : Tree) → Arg u i Q → SeenAt τ N ch q (ls ++ os i (star empty) ∷ []) Q) →
      (j : ℕ) (Ps : List Tree) → AreArgs u j Ps → AllSeen τ N ch q ls j Ps
  all_seen N ch q ls u f j [] h = nil
  all_seen N ch q ls u f j (P ∷ Ps) h = next (f j P h.0) (all_seen N ch q ls u f (suc j) Ps h.1)

-- the port of a variable's frame doesn't depend on how many abstractions the last frame has
port_stays : (F : List Frame) (f g : Frame) (i : ℕ) → f.port ≡ g.port →
    (frame_at (F ++ f ∷ []) i).port ≡ (frame_at (F ++ g ∷ []) i).port
port_stays [] f g zero e = e
port_stays [] f g (suc i) e = refl
port_stays (h ∷ F) f g zero e = refl
port_stays (h ∷ F) f g (suc i) e = port_stays F f g i e

pub port_of_stays : (F : List Frame) (f g : Frame) (v : HeadVar) → f.port ≡ g.port →
    port_of (F ++ f ∷ []) v ≡ port_of (F ++ g ∷ []) v
port_of_stays F f g (var.Bound i j) e = port_stays F f g i e
port_of_stays F f g (var.Free q) e = refl

pub record IsHeadOf {A : Type 0} (N : NamedNet A) (F : List Frame) (i n k : ℕ) (v : HeadVar)
    (ls : List Level) : Type 0 where
  pub port : ℕ
  pub context : Context
  pub few : (m : ℕ) → m < n → NoPath N (frame_at F i).port (asked (frame_at F i).levels m)
  pub path : Path N (free (frame_at F i).port) (asked (frame_at F i).levels n) port context
  pub match : Matches F port context i n v k ls

pub is_head_of : {A : Type 0} {N : NamedNet A} {F : List Frame} {i n k : ℕ} {v : HeadVar}
    {ls : List Level} → IsHead N F i (head n v k ls) → IsHeadOf N F i n k v ls
is_head_of (heads.leaves {q = q} {X = X} few r (matched m)) = record {
  port = q;
  context = X;
  few = few;
  path = r;
  match = m;
}

-- what a head says of the subterm: it reaches this head with these arguments, which are seen where their frames are
pub record Headed (τ : Translation) {A : Type 0} (N : NamedNet A) (ch : Chain) (F : List Frame)
    (s : Subterm) (P : Tree) (n k : ℕ) (v : HeadVar) (ls : List Level) : Type 1 where
  pub args : List Tree
  pub count_is : length args ≡ k
  pub reaches : HeadReduces P (abstracted n (applied (variable_of ((length F, n) ∷ scope ch) v) args))
  pub each : AllSeen τ N ((length F, framed s n) ∷ ch) (port_of (F ++ framed s n ∷ []) v) ls 0 args

module _ {τ : Translation} where
  pub headed : {A : Type 0} {N : NamedNet A} {ch : Chain} {P : Tree} (S : Seats) (F : List Frame)
      (s : Subterm) → IsSeen τ N ch s.port s.levels P S → IsChain F (length F) s.parent ch →
      (n k : ℕ) (v : HeadVar) (ls : List Level) →
      IsHead N (F ++ framed s 0 ∷ []) (length F) (head n v k ls) → Headed τ N ch F s P n k v ls
  headed {N = N} {ch = ch} {P = P} S F s seen chain n k v ls h =
      let r = is_head_of h in
      let e = exit_of F s seen chain n r.port r.context r.few r.path in
      let one = exit_is_one (F ++ framed s 0 ∷ []) (length F) n r.port r.context (head n v k ls)
      (head n e.says.says.variable e.args e.says.first) (matched r.match)
      (matched (exit_matches F s seen chain n r.port r.context e)) in
      let ev : v ≡ e.says.says.variable = cc in
      let ek : k ≡ e.args = cc in
      let el : ls ≡ e.says.first = cc in
      let shape = normal_shape e.normal in
      let port : port_of (F ++ framed s n ∷ []) v ≡ r.port = ap (port_of (F ++ framed s n ∷ [])) ev
      ∙ port_of_stays F (framed s n) (framed s 0) e.says.says.variable refl ∙ e.says.says.port in
      let variable : occurrence shape.wire_is ≡ variable_of ((length F, n) ∷ scope ch) v = sym
      (ap (variable_of ((length F, n) ∷ scope ch)) ev
      ∙ ap (λ n. variable_of ((length F, n) ∷ scope ch) e.says.says.variable) e.lams ∙ e.says.says.is) in
      let form : e.last ≡ abstracted n (applied
      (variable_of ((length F, n) ∷ scope ch) v) shape.args) = shape.is
      ∙ ap (λ n. abstracted n (applied (occurrence shape.wire_is) shape.args)) (sym e.lams)
      ∙ ap (λ h. abstracted n (applied h shape.args)) variable in
      record {
        args = shape.args;
        count_is = shape.count ∙ sym ek;
        reaches = reduces (subst (λ u. Steps P u e.steps) form e.leads);
        each = all_seen N ((length F, framed s n) ∷ ch) (port_of (F ++ framed s n ∷ []) v) ls e.last
            (λ i Q a. record {
              seats = ArgSeats τ e.leads a S;
              seen = subst (λ ls. IsSeen τ N ((length F, framed s n) ∷ ch)
                  (port_of (F ++ framed s n ∷ []) v) (ls ++ os i (star empty) ∷ []) Q (ArgSeats τ e.leads a S)) (sym el)
                  (subst (λ q. IsSeen τ N ((length F, framed s n) ∷ ch) q
                  (e.says.first ++ os i (star empty) ∷ []) Q (ArgSeats τ e.leads a S)) (sym port)
                  (arg_seen seen e.leads a (length F) (framed s n) refl refl e.lams e.place e.inner
                  e.level e.args e.normal e.same r.port e.says.first e.says.stands));
            })
            0 shape.args shape.each;
      }

-- ---- the whole tree

record Left {A : Type 0} (N : NamedNet A) (lost_too : Bool) (F : List Frame) (ss : List Subterm)
    (ns : List ReadNode) (k : ℕ) : Type 0 where
  passed : List Frame
  many : length passed ≡ k
  rest : HaveHeadsOf N lost_too (F ++ passed) ss ns

left_one : {A : Type 0} {N : NamedNet A} {lost_too : Bool} {F : List Frame}
    (f : Frame) {ss : List Subterm} {ns : List ReadNode} →
    HaveHeadsOf N lost_too (F ++ f ∷ []) ss ns → Left N lost_too F ss ns 1
left_one f h = record { passed = f ∷ []; many = refl; rest = h }

lost_of : {A : Type 0} {N : NamedNet A} {b : Bool} {F : List Frame} {s : Subterm}
    {ss : List Subterm} {ns : List ReadNode} → HaveHeadsOf N b F (s ∷ ss) (node.NoHead ∷ ns) →
    (b ≡ true → IsHead N (F ++ framed s 0 ∷ []) (length F) no_head) × HaveHeadsOf N b (F ++ framed s 0 ∷ []) ss ns
lost_of (sources.lost f h) = (f, h)

cut_of : {A : Type 0} {N : NamedNet A} {b : Bool} {F : List Frame} {s : Subterm} {ss : List Subterm}
    {ns : List ReadNode} → HaveHeadsOf N b F (s ∷ ss) (node.Cut ∷ ns) → HaveHeadsOf N b (F ++ framed s 0 ∷ []) ss ns
cut_of (sources.cut h) = h

found_of : {A : Type 0} {N : NamedNet A} {b : Bool} {F : List Frame} {s : Subterm}
    {ss : List Subterm} {ns : List ReadNode} {n k : ℕ} {v : HeadVar} →
    HaveHeadsOf N b F (s ∷ ss) (node.Head n v k ∷ ns) →
    (ls : List Level) × IsHead N (F ++ framed s 0 ∷ []) (length F) (head n v k ls)
    × HaveHeadsOf N b (F ++ framed s n ∷ [])
    (arguments (length F) (port_of (F ++ framed s n ∷ []) v) ls 0 k ++ ss) ns
found_of (sources.found {ls = ls} h r) = (ls, h, r)

pub chain_more : (F G : List Frame) (b c : ℕ) (o : Option ℕ) (ch : Chain) → b ≤ c →
    IsChain F b o ch → IsChain (F ++ G) c o ch
chain_more F G b c o [] l h = h
chain_more F G b c o (x ∷ xs) l h =
    let n = length-append F G in
    let a = h.1 in
    let d = h.2 in (
      h.0,
      (omega arith),
      (omega arith),
      get_or_append_left F G frames.root x.0 h.2 ∙ h.3,
      chain_more F G x.0 x.0 x.1.parent xs (omega arith) h.4,
    )

module _ (τ : Translation) {A : Type 0} (N : NamedNet A) (b : Bool) where
  -- A part shows what is seen at its subterms; and what comes after it is left.
  abbrev Reads : {c : Bool} → Part c → Type 1
  Reads {c = true} t = (P : Tree) (s : Subterm) (ch : Chain) (F : List Frame) (ss : List Subterm)
      (ns : List ReadNode) → SeenAt τ N ch s.port s.levels P → IsChain F (length F) s.parent ch →
      HaveHeadsOf N b F (s ∷ ss) (preorder t ++ ns) →
      Shows b (scope ch) (length F) t P × Left N b F ss ns (length (preorder t))
  Reads {c = false} ts = (Ps : List Tree) (i q : ℕ) (ls : List Level) (j : ℕ) (ch : Chain)
      (F : List Frame) (ss : List Subterm) (ns : List ReadNode) → length Ps ≡ count ts →
      AllSeen τ N ch q ls j Ps → IsChain F (length F) (Some i) ch →
      HaveHeadsOf N b F (arguments i q ls j (count ts) ++ ss) (preorder ts ++ ns) →
      Shows b (scope ch) (length F) ts Ps × Left N b F ss ns (length (preorder ts))

  reads_term : (l : ℕ) (v : HeadVar) (ts : Part false) → Reads ts → Reads (term l v ts)
  reads_term l v ts up P s ch F ss ns seen chain h =
      let r = found_of h in
      let g = headed seen.seats F s seen.seen chain l (count ts) v r.0 r.1 in
      let f = framed s l in
      let p = length_push F f in
      let n : length (F ++ f ∷ []) ≡ suc (length F) = omega arith in
      let below : IsChain (F ++ f ∷ []) (length (F ++ f ∷ [])) (Some (length F))
      ((length F, f) ∷ ch) = (
        refl,
        (omega arith),
        (omega arith),
        frame_last F f,
        chain_grows F f (length F) s.parent ch chain,
      ) in
      let x = up g.args (length F) (port_of (F ++ f ∷ []) v) r.0 0 ((length F, f) ∷ ch)
      (F ++ f ∷ []) ss ns g.count_is g.each below r.2 in
      let m = x.1.many in (
        (g.args, g.reaches, subst (λ i. Shows b ((length F, l) ∷ scope ch) i ts g.args) n x.0),
        record {
          passed = f ∷ x.1.passed;
          many = ap suc m;
          rest = subst (λ F. HaveHeadsOf N b F ss ns) (append_assoc F (f ∷ []) x.1.passed) x.1.rest;
        },
      )

  reads_lost : Reads lost
  reads_lost P s ch F ss ns seen chain h =
      let r = lost_of h in
      (λ e. no_head_is F s seen.seen chain (r.0 e), left_one (framed s 0) r.1)

  reads_cut : Reads cut
  reads_cut P s ch F ss ns seen chain h = (tt, left_one (framed s 0) (cut_of h))

  reads_none : Reads none
  reads_none [] i q ls j ch F ss ns e seen chain h = (
    refl,
    record { passed = []; many = refl; rest = subst (λ F. HaveHeadsOf N b F ss ns) (sym (append-nil F)) h },
  )
  reads_none (P ∷ Ps) i q ls j ch F ss ns e seen chain h = absurd (omega arith)

  reads_more : (t : Part true) (ts : Part false) → Reads t → Reads ts → Reads (more t ts)
  reads_more t ts up next_up [] i q ls j ch F ss ns e seen chain h = absurd (omega arith)
  reads_more t ts up next_up (P ∷ Ps) i q ls j ch F ss ns e (next seen all) chain h =
      let s : Subterm = record { port = q; levels = ls ++ os j (star empty) ∷ []; parent = Some i } in
      let x = up P s ch F (arguments i q ls (suc j) (count ts) ++ ss) (preorder ts ++ ns) seen chain
      (subst (λ ns. HaveHeadsOf N b F (arguments i q ls j (suc (count ts)) ++ ss) ns)
      (append_assoc (preorder t) (preorder ts) ns) h) in
      let G = F ++ x.1.passed in
      let n = length-append F x.1.passed in
      let m = x.1.many in
      let y = next_up Ps i q ls (suc j) ch G ss ns (omega arith) all
      (chain_more F x.1.passed (length F) (length G) (Some i) ch (omega arith) chain) x.1.rest in
      let k = y.1.many in
      let l = length-append x.1.passed y.1.passed in
      let p = length-append (preorder t) (preorder ts) in
      let at : length G ≡ length F + length (preorder t) = omega arith in (
        (x.0, subst (λ i. Shows b (scope ch) i ts Ps) at y.0),
        record {
          passed = x.1.passed ++ y.1.passed;
          many = omega arith;
          rest = subst (λ F. HaveHeadsOf N b F ss ns) (append_assoc F x.1.passed y.1.passed) y.1.rest;
        },
      )

  reads : {c : Bool} (t : Part c) → Reads t
  reads (term l v ts) = reads_term l v ts (reads ts)
  reads lost = reads_lost
  reads cut = reads_cut
  reads none = reads_none
  reads (more t ts) = reads_more t ts (reads t) (reads ts)

  -- a tree whose heads are those of a subterm that is seen behind no frame
  pub shows : (t : Part true) (P : Tree) (s : Subterm) → s.parent ≡ None →
      SeenAt τ N [] s.port s.levels P → HaveHeadsOf N b [] (s ∷ []) (preorder t) → Shows b [] 0 t P
  shows t P s e seen h = (reads t P s [] [] [] [] seen e
      (subst (λ ns. HaveHeadsOf N b [] (s ∷ []) ns) (sym (append-nil (preorder t))) h)).0
