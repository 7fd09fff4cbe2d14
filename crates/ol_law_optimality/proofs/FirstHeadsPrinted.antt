-- What is printed where each place that was asked has a head, and reductions of plain terms to so many heads.
use Rattle.std.proofs.Common.{◌⊎◌, inl, inr, ◌≡◌, ℕ, zero, suc, ◌+◌, ◌≤◌, Bool, true, false, if◌then◌else◌, List, []}
use Rattle.std.proofs.Common.{◌∷◌, ◌++◌, length, Some, None, append-nil, map, refl, sym, ap, ◌∙◌, subst, arith}
use Rattle.std.proofs.lemmas.List.{append_assoc, length_push}
use Rattle.std.proofs.lemmas.Option.{none-some}
use Rattle.std.specs.Option.{option_or}
use Rattle.ol_beta.specs.Leftmost.{leftmost, IsNormal, is_abstraction}
use Rattle.ol_beta.specs.Leftmost as steps
use Rattle.ol_demand.specs.Answers.{start_of}
use Rattle.ol_demand.specs.Demands.{Asking, asks, next, place_of, Turn, rewrites, one_more, finds, Turns, begins}
use Rattle.ol_demand.specs.Demands.{and_then, IsDemandRun}
use Rattle.ol_beta.proofs.Redexes.{no_under, no_first}
use Rattle.ol_demand.proofs.Onward.{is_start}
use Rattle.ol_invariance.proofs.SameNets.{start_paths}
use Rattle.ol_law_optimality.proofs.Exactly.{start_is_levelled}
use Rattle.ol_law_optimality.proofs.Labelling.{each_term_has_letters, labelled}
use Rattle.ol_law_optimality.specs.Steps.{steps_of}
use Rattle.ol_law_levels.proofs.DemandPlaces.{demand_places}
use Rattle.ol_law_levels.proofs.Runs.{same_levelled, start_levelled}
use Rattle.ol_law_levels.proofs.Terms.{term_is_levelled}
use Rattle.ol_rules.proofs.Relation.{same_sym}
use Rattle.ol_rules.specs.declared.journal.NodeName.TheVariants.{Init}
use Rattle.ol_demand.specs.Laws.{IsStart}
use Rattle.ol_translate.specs.Names.{HasNames}
use Rattle.ol_law_meaning.specs.Shows.{BetaReduces, IsHeadNormal, IsVariable, Shown, Fills, applied}
use Rattle.ol_law_meaning.proofs.Based.{places_say}
use Rattle.ol_law_meaning.proofs.Endings.{no_redex}
use Rattle.ol_law_optimality.specs.Labels.{Label, Labelled, erased}
use Rattle.ol_net.specs.Nets.{NamedNet, IsNet, SameNet, net_under}
use Rattle.ol_net.specs.Numbered.{net_of}
use Rattle.ol_readback.specs.Frames.{Frame}
use Rattle.ol_readback.specs.Heads.{Answer, head, no_head}
use Rattle.ol_readback.specs.Heads as answers
use Rattle.ol_readback.specs.ReadTrees.{Subterm, framed}
use Rattle.ol_readback.specs.Terms.{HasAllHeads, IsNoLam, abstracted, variable_of}
use Rattle.ol_readback.specs.Whole.{Part, preorder}
use Rattle.ol_readback.specs.Whole as whole
use Rattle.ol_readback.specs.declared.answers.HeadVar.{HeadVar}
use Rattle.ol_readback.specs.declared.answers.HeadVar.TheVariants as var
use Rattle.ol_readback.specs.declared.answers.ReadNode.{ReadNode}
use Rattle.ol_readback.specs.declared.answers.ReadNode.TheVariants as node
use Rattle.ol_readback.proofs.Forests.{heads_are_whole}
use Rattle.ol_readback.proofs.Kept.{heads_moved}
use Rattle.ol_rules.specs.declared.journal.Entry.{Entry}
use Rattle.ol_rules.specs.declared.journal.NodeName.{NodeName}
use Rattle.ol_term.specs.Trees.{Tree}
use Rattle.ol_term.specs.Trees as trees
use Rattle.ol_term.specs.declared.translations.Translation.{Translation}
use Rattle.ol_translate.specs.Translation.{translation_of}
use Rattle.ol_law_optimality.specs.FirstHeads.{ShowsHeads, not_asked, at_var, at_free, at_lam, at_app, HasFirstHeads}
use Rattle.ol_law_optimality.specs.FirstHeads.{HaveHeads, FilledHasHeads, NormalHasHeads, OneHeadIsHeadNormal}
use Rattle.ol_law_optimality.specs.FirstHeads.{PrintedHeadsAreAsShort, HeadsAreFound, NoReductionToHeadsIsShorter}
use Rattle.ol_law_optimality.specs.Demand.{NeverMoreThanAnyReduction}
use Rattle.ol_law_optimality.proofs.FirstHeadsNeeded.{shown_head, shown}
use Rattle.ol_law_optimality.proofs.FirstHeadsPlaces.{Heads, heads_by}
use Rattle.ol_law_optimality.proofs.FirstHeadsTurns.{run_heads}
use Rattle.ol_law_optimality.proofs.FirstHeadsReached.{OfTurns, degrees_to, demand_is_as_short_for_heads, plain_no_lam}
use Rattle.ol_law_confluence.specs.Reductions.{Convertible, turned, joined}
use Rattle.ol_law_confluence.proofs.Meetings.{convertible}
use Rattle.ol_law_optimality.proofs.FirstHeadsSame.{CutAfter, all_cut, fills_same}
use Rattle.ol_law_optimality.proofs.Counts.{no_more}
use Rattle.ol_law_optimality.proofs.Demanding.{contracts_beta}
use Rattle.ol_law_optimality.proofs.Needed.{spread, contracts_row}
use Rattle.ol_law_optimality.proofs.Steps.{leftmost_families_are_families}

-- ---- a term that fills a tree

-- with these places after the part's, of which heads are asked too
abbrev Goal : (c : Bool) → Part c → List (ℕ × ℕ) → ℕ → Shown c → Bool → ℕ → List ReadNode → Type 0
Goal true P ss i t b n rest = Fills b ss i P t → HaveHeads n (preorder P ++ rest) →
    (m : ℕ) × ShowsHeads n t m × HaveHeads m rest
Goal false P ss i Ps b n rest = Fills b ss i P Ps → HaveHeads n (preorder P ++ rest) →
    (f : Tree) (k : ℕ) → IsNoLam f → ShowsHeads (suc k) f n →
    (m : ℕ) × ShowsHeads (suc k) (applied f Ps) m × HaveHeads m rest

abstracted_shows : (l n m : ℕ) (t : Tree) → ShowsHeads (suc n) t m → ShowsHeads (suc n) (abstracted l t) m
abstracted_shows zero n m t h = h
abstracted_shows (suc l) n m t h = at_lam (abstracted_shows l n m t h)

variable_shows : (ss : List (ℕ × ℕ)) (v : HeadVar) (n : ℕ) → ShowsHeads (suc n) (variable_of ss v) n
variable_shows ss (var.Bound i j) n = at_var
variable_shows ss (var.Free q) n = at_free

variable_no_lam : (ss : List (ℕ × ℕ)) (v : HeadVar) → IsNoLam (variable_of ss v)
variable_no_lam ss (var.Bound i j) = tt
variable_no_lam ss (var.Free q) = tt

none_asked : (rest : List ReadNode) (t : Tree) → (m : ℕ) × ShowsHeads 0 t m × HaveHeads m rest
none_asked rest t = (0, not_asked, tt)

fills_shows : {c : Bool} (P : Part c) (ss : List (ℕ × ℕ)) (i : ℕ) (t : Shown c) (lost_too : Bool) (n : ℕ)
    (rest : List ReadNode) → Goal c P ss i t lost_too n rest
fills_shows (whole.term l v ts) ss i t b zero rest = λ f h. none_asked rest t
fills_shows (whole.term l v ts) ss i t b (suc n) rest = λ f h.
    let x = fills_shows ts ((i, l) ∷ ss) (suc i) f.0 b n rest f.2 h (variable_of ((i, l) ∷ ss) v) n
    (variable_no_lam ((i, l) ∷ ss) v) (variable_shows ((i, l) ∷ ss) v n) in
    (x.0, subst (λ t. ShowsHeads (suc n) t x.0) (sym f.1) (abstracted_shows l n x.0 _ x.1), x.2)
fills_shows whole.lost ss i t b zero rest = λ f h. none_asked rest t
fills_shows whole.lost ss i t b (suc n) rest = λ f h. absurd h
fills_shows whole.cut ss i t b zero rest = λ f h. none_asked rest t
fills_shows whole.cut ss i t b (suc n) rest = λ f h. absurd h
fills_shows whole.none ss i Ps b n rest = λ f h g k e s.
    (n, subst (λ Ps. ShowsHeads (suc k) (applied g Ps) n) (sym f) s, h)
fills_shows (whole.more u us) ss i [] b n rest = λ f. absurd f
fills_shows (whole.more u us) ss i (P ∷ Ps) b n rest = λ f h g k e s.
    let x = fills_shows u ss i P b n (preorder us ++ rest) f.0
    (subst (HaveHeads n) (append_assoc (preorder u) (preorder us) rest) h) in
    fills_shows us ss (i + length (preorder u)) Ps b x.0 rest f.1 x.2 (trees.app g P) k tt (at_app e s x.1)

pub filled_has_heads : FilledHasHeads
filled_has_heads b P t f n h =
    let x = fills_shows P [] 0 t b n [] f (subst (HaveHeads n) (sym (append-nil (preorder P))) h) in (x.0, x.1)

-- ---- normal forms

clash : true ≡ false → ⊥
clash e = absurd (cc)

record Parts (f a : Tree) : Type 0 where
  plain : IsNoLam f
  function : leftmost f ≡ None
  argument : leftmost a ≡ None

parts : (f a : Tree) → leftmost (trees.app f a) ≡ None → Parts f a
parts f a e = go (is_abstraction f) refl e
  where
    go : (b : Bool) → is_abstraction f ≡ b →
        (if b then Some [] else option_or (steps.under 1 (leftmost f)) (steps.under 2 (leftmost a))) ≡ None → Parts f a
    go true h e = absurd (none-some _ (sym e))
    go false h e =
        let r = no_first (steps.under 1 (leftmost f)) (steps.under 2 (leftmost a)) e in
        record {
          plain = plain_no_lam f h;
          function = no_under 1 (leftmost f) r.0;
          argument = no_under 2 (leftmost a) r.1;
        }

normal_shows : (t : Tree) → leftmost t ≡ None → (n : ℕ) → HasFirstHeads n t
normal_shows t e zero = (0, not_asked)
normal_shows (trees.var k) e (suc n) = (n, at_var)
normal_shows (trees.free f) e (suc n) = (n, at_free)
normal_shows (trees.lam b) e (suc n) =
    let x = normal_shows b (no_under 0 (leftmost b) e) (suc n) in (x.0, at_lam x.1)
normal_shows (trees.app f a) e (suc n) =
    let r = parts f a e in
    let x = normal_shows f r.function (suc n) in
    let y = normal_shows a r.argument x.0 in
    (y.0, at_app r.plain x.1 y.1)

pub normal_has_heads : NormalHasHeads
normal_has_heads t z n = normal_shows t (no_redex t z) n

-- ---- head normal forms

applied_one : (Ps : List Tree) (f : Tree) → IsNoLam f → ShowsHeads 1 f 0 → ShowsHeads 1 (applied f Ps) 0
applied_one [] f e h = h
applied_one (P ∷ Ps) f e h = applied_one Ps (trees.app f P) tt (at_app e h not_asked)

variable_one : (t : Tree) → IsVariable t → IsNoLam t × ShowsHeads 1 t 0
variable_one (trees.var k) h = (tt, at_var)
variable_one (trees.free k) h = (tt, at_free)
variable_one (trees.lam t) h = absurd h
variable_one (trees.app f a) h = absurd h

head_one : (t : Tree) → IsHeadNormal t → HasFirstHeads 1 t
head_one t h =
    let v = variable_one h.head h.variable in (
      0,
      subst (λ t. ShowsHeads 1 t 0) (sym h.is) (abstracted_shows h.abstractions 0 0 (applied h.head h.arguments)
          (applied_one h.arguments h.head v.0 v.1)),
    )

pub one_head_is_head_normal : OneHeadIsHeadNormal
one_head_is_head_normal t = (λ h. head_one t h, λ s. shown_head s.1)

-- ---- with the labels of the first term

pub no_shorter_reduction : (τ : Translation) (heads : ℕ) (t v : Tree) (r : BetaReduces t v) → HasFirstHeads heads v →
    OfTurns τ heads t (λ n. n ≤ steps_of r)
no_shorter_reduction τ heads t v r s names h K k same start turns journal places M a run =
    let T = each_term_has_letters t in
    let l = labelled r T.0 T.1 in
    let x = degrees_to τ heads T.0 l.0 l.1 l.2 (subst (λ v. HasFirstHeads heads v) (sym l.3) s) T.2 t T.1 names h K k
    same start turns journal places M a run in
    let m = no_more x.0 l.1 x.1 x.2 in
    let e = x.3 in
    let b = l.4 in
    omega (arith, m, e, b)

pub no_reduction_to_heads_is_shorter : NoReductionToHeadsIsShorter
no_reduction_to_heads_is_shorter τ heads t v r s names h g k same =
    no_shorter_reduction τ heads t v r s names h (net_of g) k same (is_start g k)

-- a normal form shows as many heads as are asked for
pub never_more_than_any_reduction : NeverMoreThanAnyReduction
never_more_than_any_reduction τ t v r n names h g k same heads =
    no_reduction_to_heads_is_shorter τ heads t v r (normal_has_heads v n heads) names h g k same

-- ---- what is printed

-- and no more are asked than so many
record Few (heads : ℕ) (places : List ReadNode) (a : Asking) : Type 0 where
  same : length a.frames ≡ length places
  few : length places ≤ heads

pub next_frames : (F : List Frame) (s : Subterm) (ss : List Subterm) (a : Answer) →
    length (next F s ss a).frames ≡ length F + 1
next_frames F s ss (head n v k ls) = length_push F (framed s n)
next_frames F s ss no_head = length_push F (framed s 0)
next_frames F s ss answers.budget = length_push F (framed s 0)

turn_few : {heads ticket : ℕ} {M P : NamedNet NodeName} {a b : Asking} {es : List Entry} {ns : List ReadNode} →
    (places : List ReadNode) → Turn heads M ticket a es ns P b → Few heads places a → Few heads (places ++ ns) b
turn_few {heads = heads} {a = a} places (rewrites m) f =
    subst (λ ns. Few heads ns a) (sym (append-nil places)) f
turn_few {heads = heads} places (one_more {F = F} {s = s} {ss = ss} {n = n} h l) f =
    subst (λ ns. Few heads ns (asks F (s ∷ ss) (suc n))) (sym (append-nil places))
    (record { same = f.same; few = f.few })
turn_few places (finds {F = F} {s = s} {ss = ss} {a = c} h x) f =
    let e = next_frames F s ss c in
    let l = length_push places (place_of c) in
    let q = f.same in
    let b = h.below in
    record { same = omega (arith, e, l, q); few = omega (arith, l, q, b) }

turns_few : {N : NamedNet NodeName} {heads turns : ℕ} {journal : List Entry} {places : List ReadNode}
    {M : NamedNet NodeName} {a : Asking} → Turns N heads turns journal places M a → Few heads places a
turns_few begins = record { same = refl; few = omega arith }
turns_few (and_then {places = ps} r t) = turn_few ps t (turns_few r)

-- ---- where they are found

have_heads : (n : ℕ) (ps : List ReadNode) (ss : List Subterm) → HasAllHeads ps → (ss ≡ []) ⊎ (n ≤ length ps) →
    HaveHeads n (ps ++ map (λ s. node.Cut) ss)
have_heads zero ps ss h o = tt
have_heads (suc n) [] [] h o = tt
have_heads (suc n) [] (s ∷ ss) h (inl e) = absurd (cc)
have_heads (suc n) [] (s ∷ ss) h (inr b) = absurd (omega (arith, b))
have_heads (suc n) (node.Head l v k ∷ ps) ss h (inl e) = have_heads n ps ss h (inl e)
have_heads (suc n) (node.Head l v k ∷ ps) ss h (inr b) = have_heads n ps ss h (inr (omega (arith, b)))
have_heads (suc n) (node.NoHead ∷ ps) ss h o = absurd h
have_heads (suc n) (node.Cut ∷ ps) ss h o = absurd h

asked_heads : (n : ℕ) (ps : List ReadNode) (ss : List Subterm) (F : List Frame) → HasAllHeads ps →
    length F ≡ length ps → (ss ≡ []) ⊎ (n ≤ length F) → HaveHeads n (ps ++ map (λ s. node.Cut) ss)
asked_heads n ps ss F h q (inl e) = have_heads n ps ss h (inl e)
asked_heads n ps ss F h q (inr b) = have_heads n ps ss h (inr (omega (arith, q, b)))

pub heads_found : (τ : Translation) (heads : ℕ) (t v : Tree) → BetaReduces t v → HasFirstHeads heads v →
    (names : ℕ) → HasNames t names → (K : NamedNet ℕ) → IsNet K →
    SameNet K (translation_of τ t names) → IsStart (net_under Init K) →
    (journal : List Entry) (places : List ReadNode) (M : NamedNet NodeName) →
    IsDemandRun (net_under Init K) heads journal places M → HaveHeads heads places
heads_found τ heads t v r s names h K k same start journal places M d =
    let T = each_term_has_letters t in
    let l = labelled r T.0 T.1 in
    let z = subst (λ v. HasFirstHeads heads v) (sym l.3) s in
    let y = shown heads z.0 T.0 l.0 l.1 (contracts_row l.2) z.1 in
    let N = translation_of τ t names in
    let L = start_levelled K (same_levelled N K (same_sym K N same) (term_is_levelled τ t names h)) in
    let a = run_heads τ t names h heads (net_under Init K) start L (start_paths K N k same) z.0
    (subst (λ t. Heads true heads t z.0) T.1 (heads_by τ y.by)) d.run in
    let f = turns_few d.run in
    subst (HaveHeads heads) (sym d.all)
    (asked_heads heads d.asked_places d.last.waiting d.last.frames a f.same d.over)

pub heads_are_found : HeadsAreFound
heads_are_found τ heads t v r s names h g k same =
    heads_found τ heads t v r s names h (net_of g) k same (is_start g k)

-- ---- what is printed of them

-- all places that weren't asked are cut
cut_after : (n : ℕ) (ps : List ReadNode) (ss : List Subterm) → length ps ≤ n →
    CutAfter n (ps ++ map (λ s. node.Cut) ss)
cut_after n [] ss b = all_cut ss n
cut_after zero (p ∷ ps) ss b = absurd (omega (arith, b))
cut_after (suc n) (p ∷ ps) ss b = cut_after n ps ss (omega (arith, b))

pub printed_heads_are_as_short : PrintedHeadsAreAsShort
printed_heads_are_as_short τ T own names h g n same heads journal places M d all =
    let N = translation_of τ (erased T) names in
    let p = start_paths (net_of g) N n same in
    let w = heads_moved (start_of g) N (λ q c r X. ((p q c r X).1, (p q c r X).0)) true
    (demand_places (start_of g) M heads journal places (is_start g n) (start_is_levelled τ T names h (net_of g) same) d) in
    let P = heads_are_whole N true places w in
    let says = places_say τ (erased T) names h true P.tree places P.is_list w in
    let s = filled_has_heads true says.tree says.reduct says.fills heads
    (subst (HaveHeads heads) (sym says.is_list) all) in
    let l = labelled says.reduces T refl in
    let r = demand_is_as_short_for_heads τ heads T l.0 l.1 l.2 (subst (λ v. HasFirstHeads heads v) (sym l.3) s) own names h
    g n same journal places M d in
    let c = spread (leftmost_families_are_families T r.1 r.0 r.2) in
    let both : Convertible says.reduct (erased r.1) =
    joined (turned (convertible says.reduces)) (convertible (contracts_beta c.steps)) in
    let cuts = subst (CutAfter heads) (sym (says.is_list ∙ d.all)) (cut_after heads d.asked_places d.last.waiting
    (turns_few d.run).few) in
    let P = fills_same says.tree says.reduct (erased r.1) true heads r.3.0 says.fills both r.3.1
    (subst (HaveHeads heads) (sym says.is_list) all) cuts in
    (r.0, r.1, r.2, r.3, (says.tree, says.is_list, P), r.4)
