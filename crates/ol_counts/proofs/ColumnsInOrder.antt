-- Demand order, call-by-need and leftmost reduction in one table.
use Rattle.std.proofs.Common.{◌≡◌, ℕ, zero, suc, ◌+◌, ◌≤◌, Bool, true, false, cond, List, [], ◌∷◌, length, Option, Some, inl, inr, refl, sym, ap, ◌∙◌, subst, arith}
use Rattle.std.proofs.lemmas.Bool.{eqb-true}
use Rattle.std.proofs.lemmas.List.Elements.{recursion_from_All}
use Rattle.std.proofs.lemmas.List.Sums.{count_by-le-length, sum_by-cons}
use Rattle.std.specs.List.{AllByRecursion as ByRecursion}
use Rattle.ol_beta.proofs.Redexes.{no_leftmost}
use Rattle.ol_beta.specs.Leftmost.{IsNormal}
use Rattle.ol_counts.specs.Ordered.{IsOrderCount, ended, short, past, LeadsWithin}
use Rattle.ol_counts.specs.Tallies.{IsTally, IsDemandTally, IsFamilyTally, is_read, places_read, steps_tally}
use Rattle.ol_counts.specs.Tallies as tallies
use Rattle.ol_counts.specs.declared.tables.Column.{Column}
use Rattle.ol_counts.specs.declared.tallies.Readback.{Readback}
use Rattle.ol_counts.specs.declared.tallies.Tally.{Tally}
use Rattle.ol_counts.specs.declared.tallies.Numbers.TheVariants.{Net, Steps}
use Rattle.ol_counts.specs.declared.ways.Way.TheVariants.{Leftmost, Need, Families}
use Rattle.ol_law_edges.specs.Edges.{IsIn}
use Rattle.ol_law_optimality.specs.Steps.{steps_of}
use Rattle.ol_law_completeness.proofs.Levelled.{places_are_of_term}
use Rattle.ol_law_meaning.proofs.Based.{places_say}
use Rattle.ol_law_meaning.specs.Shows.{LacksHead, LeftmostReduces, ready, contract}
use Rattle.ol_families.specs.Counts.{IsFamilyCount}
use Rattle.ol_families.specs.Counts as families
use Rattle.ol_demand.proofs.Onward.{is_start}
use Rattle.ol_law_optimality.specs.Families.{HaveOwnLetters}
use Rattle.ol_law_optimality.specs.HeadFamilies.{HasSoManyDifferent}
use Rattle.ol_law_optimality.proofs.AllFamilies.{runs_are_of_families}
use Rattle.ol_law_optimality.proofs.Counts.{no_more}
use Rattle.ol_law_optimality.proofs.Labelling.{labelled_is_leftmost}
use Rattle.ol_law_optimality.proofs.Demanding.{is_no_longer}
use Rattle.ol_law_optimality.proofs.Needed.{none_is_shorter}
use Rattle.ol_law_optimality.proofs.Reached.{fewest_is_reached}
use Rattle.ol_law_optimality.proofs.Steps.{leftmost_families_are_families}
use Rattle.ol_law_optimality.specs.Labels.{Label, Labelled, erased, LeftmostContracts}
use Rattle.ol_counts.proofs.Ending.{demand_is_no_more_than_need, need_is_by_families}
use Rattle.ol_counts.proofs.Found.{need_is_no_more_than_leftmost}
use Rattle.ol_counts.specs.Machines.{need_count, IsNeedCount, is_ended, after, begun}
use Rattle.ol_demand.specs.Answers.{start_of}
use Rattle.ol_demand.specs.Demands.{Asking, IsDemandRun, Turns}
use Rattle.ol_net.specs.Graph.{Graph}
use Rattle.ol_net.specs.Nets.{IsNet, NamedNet}
use Rattle.ol_net.specs.Numbered.{net_of}
use Rattle.ol_rules.proofs.Recount.{net_same}
use Rattle.ol_rules.proofs.Relation.{same_sym}
use Rattle.ol_rules.specs.Counting.{counts_of}
use Rattle.ol_readback.proofs.Forests.{heads_are_whole}
use Rattle.ol_readback.specs.Terms.{HasAllHeads}
use Rattle.ol_readback.specs.declared.answers.ReadNode.{ReadNode}
use Rattle.ol_readback.specs.declared.answers.ReadNode.TheVariants as node
use Rattle.ol_rules.specs.declared.journal.Counts.{Counts}
use Rattle.ol_rules.specs.declared.journal.Entry.{Entry}
use Rattle.ol_rules.specs.declared.journal.NodeName.{NodeName}
use Rattle.ol_strategies.specs.declared.orders.Order.TheVariants as order
use Rattle.ol_subjects.specs.Subjects.{IsNetOfTerm}
use Rattle.ol_term.specs.Trees.{Tree, is_below}
use Rattle.ol_term.specs.declared.translations.Translation.{Translation}
use Rattle.ol_translate.proofs.Whole.{translation_net}
use Rattle.ol_translate.specs.Names.{HasNames}
use Rattle.ol_translate.specs.Translation.{translation_of}
use Rattle.ol_counts.specs.Columns.{HasBetas, HasSteps, TableIsInOrder}
use Rattle.ol_law_meaning.proofs.FileNames.{file_names}

-- ---- what a tally says

-- a tree of which each place was read, and none is without a head
all_heads : (ns : List ReadNode) → places_read ns ≡ length ns → (LacksHead ns → ⊥) → HasAllHeads ns
all_heads [] e n = tt
all_heads (node.Head l v k ∷ ns) e n =
    let s : places_read (node.Head l v k ∷ ns) ≡ 1 + places_read ns =
    sum_by-cons (λ (x : ReadNode). cond (is_read x) 1 0) (node.Head l v k) ns in
    all_heads ns (omega (arith, s, e)) n
all_heads (node.NoHead ∷ ns) e n = absurd (n tt)
all_heads (node.Cut ∷ ns) e n =
    let s : places_read (node.Cut ∷ ns) ≡ 0 + places_read ns =
    sum_by-cons (λ (x : ReadNode). cond (is_read x) 1 0) node.Cut ns in
    let l = count_by-le-length is_read ns in
    absurd (omega (arith, s, e, l))

clash : false ≡ true → ⊥
clash e = absurd (cc)

same_steps : (n m : ℕ) (e : Bool) → steps_tally n true ≡ steps_tally m e → (m ≡ n) × (e ≡ true)
same_steps n m e q =
    let k : Steps n ≡ Steps m = ap (λ (t : Tally). t.numbers) q in
    let j : m ≡ n = cc in
    (j, sym (ap (λ (t : Tally). t.ended) q))

need_is : (t : Tree) (moves n m : ℕ) (e : Bool) → IsNeedCount t moves m e → steps_tally n true ≡ steps_tally m e →
    need_count t moves ≡ Some n
need_is t moves n m e c q =
    let s = same_steps n m e q in
    let d : is_ended (after moves (begun t)) ≡ true = sym c.1 ∙ s.1 in
    rw d (ap Some (sym c.0 ∙ s.0))

leads : (n : ℕ) (t u : Tree) → LeadsWithin order.Leftmost n t u → (r : LeftmostReduces t u) × (steps_of r ≡ n)
leads zero t u e = subst (λ u. (r : LeftmostReduces t u) × (steps_of r ≡ 0)) e (ready, refl)
leads (suc n) t u x =
    let y = leads n x.1.0 u x.1.1.1 in
    let s = x.1.1.0 in
    (contract {at = s.0} s.1 s.2 y.0, ap suc y.1)

ended_in : (t : Tree) (most n : ℕ) (e : Bool) → IsOrderCount order.Leftmost t most n e → e ≡ true →
    (u : Tree) × (r : LeftmostReduces t u) × IsNormal u × (steps_of r ≡ n)
ended_in t most n _ (ended u l x w e) q = let y = leads n t u x in (u, y.0, no_leftmost u e, y.1)
ended_in t most n _ (short u x w e) q = absurd (cc)
ended_in t most n _ (past u l x w) q = absurd (cc)

module _ (τ : Translation) (t : Tree) (names : List (List ℕ)) (g : Graph) (h : HasNames t (length names))
    (of : IsNetOfTerm τ t names g) (moves : ℕ) where
  -- the turns that a demand run has made
  record Turned (heads : ℕ) (journal : List Entry) : Type 0 where
    turns : ℕ
    places : List ReadNode
    net : NamedNet NodeName
    asking : Asking
    made : Turns (start_of g) heads turns journal places net asking

  turned : (heads fuel : ℕ) (counts : Counts) (stuck : ℕ) (read : Option Readback) (tally : Tally) →
      IsDemandTally g heads fuel tally → tally.numbers ≡ Net counts stuck read →
      (journal : List Entry) × Turned heads journal × (counts_of journal ≡ counts)
  turned heads fuel counts stuck read _ (tallies.reads {journal = journal} a s c) e = (
    journal,
    record {
      turns = a.0.is.turns;
      places = a.0.is.asked_places;
      net = _;
      asking = a.0.is.last;
      made = a.0.is.run;
    },
    (cc),
  )
  turned heads fuel counts stuck read _ (tallies.cut {journal = journal} a s) e = (
    journal,
    record {
      turns = a.0.is.turns;
      places = a.0.is.places;
      net = _;
      asking = _;
      made = a.0.is.run;
    },
    (cc),
  )
  turned heads fuel counts stuck read _ (tallies.no_root x) e = absurd (cc)

  is_net : IsNet (net_of g)
  is_net = net_same (translation_of τ t (length names)) (net_of g)
      (same_sym (net_of g) (translation_of τ t (length names)) of.same) (translation_net τ t (length names) h)

  demand_first : (heads n : ℕ) (journal : List Entry) → Turned heads journal → need_count t moves ≡ Some n →
      (counts_of journal).beta ≤ n
  demand_first heads n journal a f =
      demand_is_no_more_than_need τ t (length names) h moves n f g is_net of.same heads a.turns journal a.places a.net
      a.asking a.made

  -- families
  pub record Counted (n : ℕ) : Type 0 where
    pub degrees : List Label
    pub end : Labelled
    pub start : Labelled
    pub «is» : erased start ≡ t
    pub own : HaveOwnLetters start
    pub reduction : LeftmostContracts start degrees end
    pub normal : IsNormal (erased end)
    pub different : HasSoManyDifferent degrees n

  counted_of : (most n : ℕ) (e : Bool) → IsFamilyCount t most n e → e ≡ true → Counted n
  counted_of most n _ (families.ended {ds = ds} {v = v} r e d) q = record {
    degrees = ds;
    end = v;
    start = r.start;
    «is» = r.is;
    own = r.own;
    reduction = r.reduction;
    normal = no_leftmost (erased v) e;
    different = d;
  }
  counted_of most n _ (families.cut r x d) q = absurd (cc)

  counted_in : (most n : ℕ) (tally : Tally) → IsFamilyTally most t tally → tally ≡ steps_tally n true → Counted n
  counted_in most n _ (tallies.counted {n = m} {e = e} c) q =
      let s = same_steps n m e (sym q) in subst Counted s.0 (counted_of most m e c s.1)
  counted_in most n _ (tallies.large x) q = let s = same_steps n 0 false (sym q) in absurd (clash s.1)

  families_first : (n m : ℕ) → Counted n → need_count t moves ≡ Some m → n ≤ m
  families_first n m c e =
      let b : is_below 0 (erased c.start) ≡ true = ap (is_below 0) c.is ∙ h.bound in
      let x = need_is_by_families c.start b moves m (ap (λ t. need_count t moves) c.is ∙ e) in
      let l =
      none_is_shorter c.start c.end x.1 c.degrees x.0 c.reduction x.2 x.3 c.different.0
      c.different.1 (λ e i. (c.different.2 e).0 i) in
      let k = c.different.3 in
      let j = x.4 in
      omega (arith, l, k, j)

  betas_first : (heads n : ℕ) (journal : List Entry) → Turned heads journal → Counted n →
      (counts_of journal).beta ≤ n
  betas_first heads n journal a c =
      let y = fewest_is_reached c.start c.end c.degrees c.reduction c.normal c.own.1 in
      let l =
      is_no_longer τ c.start c.end y.0 (leftmost_families_are_families c.start c.end y.0 y.1) c.normal
      c.own t c.is (length names) h (net_of g) is_net of.same (is_start g is_net) heads a.turns journal
      a.places a.net a.asking a.made in
      let m = no_more y.0 c.different.0 y.2 (λ e i. (c.different.2 e).1 ((y.3 e).0 i)) in
      let d = c.different.3 in
      omega (arith, l, m, d)

  -- demand order that has ended
  record Whole (heads : ℕ) (counts : Counts) : Type 0 where
    journal : List Entry
    tree : List ReadNode
    net : NamedNet NodeName
    run : IsDemandRun (start_of g) heads journal tree net
    read : places_read tree ≡ length tree
    is_counts : counts_of journal ≡ counts

  whole : (heads fuel : ℕ) (counts : Counts) (stuck : ℕ) (read : Option Readback) (tally : Tally) →
      IsDemandTally g heads fuel tally → tally.numbers ≡ Net counts stuck read → tally.ended ≡ true → Whole heads counts
  whole heads fuel counts stuck read _ (tallies.reads {tree = tree} {journal = journal} a s c) e d = record {
    journal = journal;
    tree = tree;
    net = _;
    run = a.0.is;
    read = eqb-true (places_read tree) (length tree) d;
    is_counts = (cc);
  }
  whole heads fuel counts stuck read _ (tallies.cut a s) e d = absurd (clash d)
  whole heads fuel counts stuck read _ (tallies.no_root x) e d = absurd (cc)

  betas_are_families : (heads n : ℕ) (counts : Counts) → Whole heads counts → Counted n → counts.beta ≡ n
  betas_are_families heads n counts w c =
      let hs = places_are_of_term τ t (length names) h g is_net of.same heads w.journal w.tree w.net w.run in
      let f = heads_are_whole (translation_of τ t (length names)) true w.tree hs in
      let s = places_say τ t (length names) h true f.tree w.tree f.is_list hs in
      let l = labelled_is_leftmost c.start c.end c.degrees c.reduction in
      let r = subst (λ (t : Tree). LeftmostReduces t (erased c.end)) c.is l.0 in
      let all = all_heads w.tree w.read (λ k. s.endless refl k (erased c.end) r c.normal) in
      let b =
      runs_are_of_families τ c.start c.end c.degrees c.reduction c.normal c.own t c.is (length names) h (net_of g)
      is_net of.same (is_start g is_net) heads w.journal w.tree w.net w.run all in
      let u = no_more b.0 c.different.0 b.1 (λ e i. (c.different.2 e).1 ((b.2 e).0 i)) in
      let v = no_more c.different.0 b.0 c.different.1 (λ e i. (b.2 e).1 ((c.different.2 e).0 i)) in
      let d = c.different.3 in
      let k = b.3 in
      let z : (counts_of w.journal).beta ≡ counts.beta = ap (λ (c : Counts). c.beta) w.is_counts in
      omega (arith, u, v, d, k, z)

-- ---- the columns

by_in : {X : Type 0} (P : X → Type 0) (xs : List X) (x : X) → IsIn x xs → ByRecursion P xs → P x
by_in P [] x i r = absurd i
by_in P (y ∷ ys) x (inl e) r = subst P (sym e) r.0
by_in P (y ∷ ys) x (inr i) r = by_in P ys x i r.1

pub table_is_in_order : TableIsInOrder
table_is_in_order τ bytes t names g is of bounds columns them a = record {
  equal =
      λ n m x y.
      let k = x.7 in
      let z = whole_run x in
      let l = betas_are_families τ t names g h of bounds.moves bounds.heads.most m x.1 z (counted m y) in
      omega (arith, k, l);
  families =
      λ e n m x y.
      let k = x.7 in
      let z = demanded x in
      let l = betas_first τ t names g h of bounds.moves bounds.heads.most m z.0 z.1 (counted m y) in
      let b = ap (λ (c : Counts). c.beta) z.2 in
      omega (arith, k, l, b);
  need =
      λ e n m x y.
      let k = x.7 in
      let z = demanded x in
      let l = demand_first τ t names g h of bounds.moves bounds.heads.most m z.0 z.1 (needed m y) in
      let b = ap (λ (c : Counts). c.beta) z.2 in
      omega (arith, k, l, b);
  need_of_families =
      λ n m x y. families_first τ t names g h of bounds.moves n m (counted n x) (needed m y);
  leftmost = second;
}
  where
    h : HasNames t (length names)
    h = file_names bytes t names is.file

    at : (c : Column) → IsIn c them → IsTally g (Some t) bounds c.way c.tally
    at c i =
        by_in (λ (c : Column). IsTally g (Some t) bounds c.way c.tally) them c i
        (recursion_from_All (λ (c : Column). IsTally g (Some t) bounds c.way c.tally) them a.tallies)

    demanded : {e : Bool} {n : ℕ} (x : HasBetas them e n) → (journal : List Entry)
        × Turned τ t names g h of bounds.moves bounds.heads.most journal × (counts_of journal ≡ x.1)
    demanded x = turned τ t names g h of bounds.moves bounds.heads.most bounds.fuel.most x.1 x.2 x.3 x.0.tally
        (subst (λ w. IsTally g (Some t) bounds w x.0.tally) x.5 (at x.0 x.4)) (ap (λ (t : Tally). t.numbers) x.6)

    whole_run : {n : ℕ} (x : HasBetas them true n) → Whole τ t names g h of bounds.moves bounds.heads.most x.1
    whole_run x = whole τ t names g h of bounds.moves bounds.heads.most bounds.fuel.most x.1 x.2 x.3 x.0.tally
        (subst (λ w. IsTally g (Some t) bounds w x.0.tally) x.5 (at x.0 x.4)) (ap (λ (t : Tally). t.numbers) x.6)
        (ap (λ (t : Tally). t.ended) x.6)

    needed : (n : ℕ) → HasSteps them Need n → need_count t bounds.moves ≡ Some n
    needed n x =
        let y = subst (λ w. IsTally g (Some t) bounds w x.0.tally) x.2 (at x.0 x.1) in
        need_is t bounds.moves n y.0 y.1 y.2 (sym x.3 ∙ y.3)

    counted : (n : ℕ) → HasSteps them Families n → Counted τ t names g h of bounds.moves n
    counted n x =
        counted_in τ t names g h of bounds.moves bounds.steps n x.0.tally
        (subst (λ w. IsTally g (Some t) bounds w x.0.tally) x.2 (at x.0 x.1)) x.3

    second : (n m : ℕ) → HasSteps them Need n → HasSteps them Leftmost m → n ≤ m
    second n m u w =
        let x = subst (λ v. IsTally g (Some t) bounds v w.0.tally) w.2 (at w.0 w.1) in
        let s = same_steps m x.0 x.1 (sym w.3 ∙ x.3) in
        let y = ended_in t bounds.steps x.0 x.1 x.2 s.1 in
        let k = need_is_no_more_than_leftmost t y.0 h.bound y.1 y.2 bounds.moves n (needed n u) in
        let z = y.3 in
        let e = s.0 in
        omega (arith, k, z, e)
