-- Demand order writes the normal form, where there is one.
use Rattle.std.proofs.Common.{◌≡◌, ◌≤◌, ℕ, suc, zero, ◌+◌, inr, length, List, [], ◌∷◌, ◌++◌}
use Rattle.std.proofs.Common.{true, false, Option, String, Global, refl, sym, ap, ◌∙◌, subst, arith}
use Rattle.ol_io.specs.Outside.{Appended}
use Rattle.ol_term.specs.declared.translations.Translation.{Translation}
use Rattle.ol_term.specs.Trees.{Tree}
use Rattle.ol_term.specs.Trees as tree
use Rattle.ol_parse.specs.Grammar.{Named}
use Rattle.ol_parse.specs.Texts.{IsText}
use Rattle.ol_parse.specs.Numbered.{names_of, number}
use Rattle.ol_translate.specs.Translation.{translation_of}
use Rattle.ol_translate.specs.Names.{HasNames}
use Rattle.ol_beta.specs.Leftmost.{IsNormal}
use Rattle.ol_law_meaning.specs.Shows.{BetaReduces, LeftmostReduces}
use Rattle.ol_readback.specs.Whole.{Part, term, lost, cut, none, more, preorder}
use Rattle.ol_readback.specs.Terms.{HasAllHeads, abstracted, variable_of, meaning, term_of}
use Rattle.ol_readback.specs.declared.answers.HeadVar.{HeadVar}
use Rattle.ol_readback.specs.declared.answers.HeadVar.TheVariants as var
use Rattle.ol_readback.specs.declared.answers.ReadNode.{ReadNode}
use Rattle.ol_law_completeness.specs.Complete.{HaveInversions}
use Rattle.ol_law_completeness.proofs.Levelled.{normal_form_is_read}
use Rattle.ol_law_confluence.proofs.LeftmostEnds.{leftmost_finds}
use Rattle.ol_words.specs.declared.jobs.Job.{Job}
use Rattle.ol_words.specs.declared.jobs.Job.TheVariants as jobs
use Rattle.ol_law_confluence.specs.NormalForms.{IsNormalFormOf}
use Rattle.ol_law_confluence.proofs.Read.{read_line, line_is_normal_form}
use Rattle.ol_cli.specs.Demand.{DemandEnds}
use Rattle.ol_cli.specs.Cases.{DemandRunsOut}
use Rattle.ol_cli.specs.Sources.{DemandsTree, TellsTree, WritesTree}
use Rattle.ol_cli.specs.NormalForms.{PrintsTerm, FirstLine, LineSays, IsFoundOnDemand, count_of_variables}
use Rattle.ol_cli.proofs.StartNet.{is_read_within, ends_within, reads_told}
use Rattle.ol_law_meaning.proofs.FileNames.{file_names}
use Rattle.ol_cli.proofs.NormalLines.{run_printed, walk_printed, demand_printed, first_line, file_of}

-- the demand run of a term with a normal form: how long it is at most, and what it reads
pub record IsDemanded (tr : Translation) (t : Tree) (names : List (List ℕ)) (v : Tree) : Type 0
  where
    pub steps : ℕ
    pub tree : Part true
    pub all : HasAllHeads (preorder tree)
    pub term : term_of tree ≡ v
    pub told : HaveInversions (translation_of tr t (length names)) (suc (length (preorder tree)))
        (preorder tree) steps
    pub ends : (fuel heads : ℕ) → steps ≤ fuel → DemandEnds tr t names fuel heads
    pub reads : (fuel heads : ℕ) → length (preorder tree) ≤ heads →
        (d : DemandEnds tr t names fuel heads) → d.tree ≡ preorder tree
    pub no_more : (fuel heads : ℕ) → steps ≤ fuel → DemandRunsOut tr t names fuel heads → ⊥

pub is_demanded : (tr : Translation) (t : Tree) (names : List (List ℕ)) →
    HasNames t (length names) →
    (v : Tree) → LeftmostReduces t v → IsNormal v → IsDemanded tr t names v
is_demanded tr t names h v r n =
    let x = normal_form_is_read tr t (length names) h v r n in
    let ns = preorder x.0 in
    let most = suc (length ns) in
    record {
      steps = x.3;
      tree = x.0;
      all = x.1;
      term = x.2;
      told = x.4;
      ends = λ fuel heads b. ends_within tr t names h most x.3 ns x.4 heads (inr (omega arith)) fuel b;
      reads = λ fuel heads b d. reads_told tr t names h most x.3 ns x.4 heads (omega arith) b fuel d;
      no_more = λ fuel heads b out.
          (is_read_within tr t names h most x.3 ns x.4 heads (inr (omega arith))).ends fuel b out;
    }

-- ---- a tree has as many places as its term has variables

in_abstractions : (l : ℕ) (t : Tree) → count_of_variables (abstracted l t) ≡ count_of_variables t
in_abstractions zero t = refl
in_abstractions (suc l) t = in_abstractions l t

one_variable : (ss : List (ℕ × ℕ)) (v : HeadVar) → count_of_variables (variable_of ss v) ≡ 1
one_variable ss (var.Bound i j) = refl
one_variable ss (var.Free q) = refl

length_append : (xs ys : List ReadNode) → length (xs ++ ys) ≡ length xs + length ys
length_append [] ys = omega arith
length_append (x ∷ xs) ys = let h = length_append xs ys in omega arith

mutual
  places_of_tree : (ss : List (ℕ × ℕ)) (i : ℕ) (p : Part true) →
      count_of_variables (meaning ss i p) ≡ length (preorder p)
  places_of_tree ss i (term l v ts) =
      let h = places_of_trees ((i, l) ∷ ss) (suc i) ts (variable_of ((i, l) ∷ ss) v) in
      let k = one_variable ((i, l) ∷ ss) v in
      in_abstractions l (meaning ((i, l) ∷ ss) (suc i) ts (variable_of ((i, l) ∷ ss) v))
      ∙ omega arith
  places_of_tree ss i lost = refl
  places_of_tree ss i cut = refl

  places_of_trees : (ss : List (ℕ × ℕ)) (i : ℕ) (p : Part false) (f : Tree) →
      count_of_variables (meaning ss i p f) ≡ count_of_variables f + length (preorder p)
  places_of_trees ss i none f = omega arith
  places_of_trees ss i (more u us) f =
      let h = places_of_trees ss (i + length (preorder u)) us (tree.app f (meaning ss i u)) in
      let k = places_of_tree ss i u in
      let a = length_append (preorder u) (preorder us) in
      omega arith

-- ---- the line

found : {tr : Translation} {bytes : List ℕ} {source : Named} {fuel heads : ℕ} {text : List ℕ} →
    (is : IsText bytes source) →
    (d : DemandsTree tr (number source) (names_of source) fuel heads text) →
    (v : Tree) → BetaReduces (number source) v → IsNormal v → count_of_variables v ≤ heads →
    (result : Named) × IsText d.demands.term result × IsNormalFormOf source result
unfolding demand_printed
found {tr} {bytes} {source} {fuel} {heads} {text} is d v r n few =
    let x =
    is_demanded tr (number source) (names_of source)
    (file_names bytes (number source) (names_of source) (file_of is)) v (leftmost_finds r n) n in
    let places = places_of_tree [] 0 x.tree in
    let same = ap count_of_variables x.term in
    let reads = x.reads fuel heads (omega arith) d.demands.ends in
    let p = demand_printed d in
    let line = read_line is p (subst HasAllHeads (sym reads) x.all) in (
      line.0,
      line.1,
      line_is_normal_form is p line.0 line.1,
    )

module _ {bytes : List ℕ} {source : Named} (is : IsText bytes source) (old new : Option (List ℕ))
    (text : List ℕ) (a : Appended old text new) where
  found_of : (job : Job) → PrintsTerm job →
      TellsTree job (number source) (names_of source) text →
      FirstLine (IsFoundOnDemand job source) old new
  unfolding demand_printed
  found_of (jobs.Run tr w f q name) k h =
      first_line is (run_printed h) (IsFoundOnDemand (jobs.Run tr w f q name) source) old new a tt
  found_of (jobs.Walk tr e q name) k h =
      first_line is (walk_printed h) (IsFoundOnDemand (jobs.Walk tr e q name) source) old new a tt
  found_of (jobs.Gen tr true n) k h =
      first_line is (run_printed h) (IsFoundOnDemand (jobs.Gen tr true n) source) old new a tt
  found_of (jobs.Demand tr f q name) k h =
      first_line is (demand_printed h) (IsFoundOnDemand (jobs.Demand tr f q name) source) old new a
      (found is h)
  found_of _ k h = absurd k

pub writes_demanded : (words : List (String Global)) (bytes : List ℕ)
    (old new : Option (List ℕ)) → WritesTree words bytes old new →
    LineSays IsFoundOnDemand words bytes old new
writes_demanded words bytes old new w job j k source is =
    let r = w job (number source) (names_of source) j (file_of is) in
    found_of is old new r.0 r.2 job k r.1
