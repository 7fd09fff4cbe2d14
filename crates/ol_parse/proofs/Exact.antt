-- Which answer a text has.
use Rattle.std.proofs.Common.{◌≡◌, ℕ, ◌<◌, ◌≤◌, List, [], ◌∷◌, Some, Result, Ok, Err, IfOk, IfErr}
use Rattle.std.proofs.Common.{true, length, refl, sym, ap, ◌∙◌, subst, arith}
use Rattle.std.specs.Prelude.{◌≢◌, ◌↔◌, IsOk}
use Rattle.ol_term.specs.Trees as tree
use Rattle.ol_term.specs.Trees.{Tree, tree_of, has_name}
use Rattle.ol_term.specs.declared.term_file.TermFile.{TermFile}
use Rattle.ol_parse.specs.Grammar.{Named}
use Rattle.ol_parse.specs.Texts.{IsText, IsRefusedAt}
use Rattle.ol_parse.specs.Numbered.{number, names_of}
use Rattle.ol_parse.specs.Depth.{named_depth}
use Rattle.ol_parse.specs.Parsed.{AreNames, IsFileOf, IsTooDeep}
use Rattle.ol_parse.specs.Refusals.{IsFault}
use Rattle.ol_parse.specs.declared.faults.ParseFault.{ParseFault}
use Rattle.ol_parse.specs.declared.faults.ParseFault.TheVariants.{NoMemory, Syntax, Depth}
use Rattle.ol_parse.proofs.Words.{names_good}
use Rattle.ol_parse.proofs.Whole.{one_term}
use Rattle.ol_parse.specs.Laws.{leaves}
use Rattle.ol_parse.specs.Flat.{built}
use Rattle.ol_parse.specs.Steps.{whole}
use Rattle.ol_parse.specs.declared.flat.Op.{Op}
use Rattle.ol_parse.proofs.Begun.{whole_is}
use Rattle.ol_parse.proofs.Sizes.{one_dead_place, few_leaves}
use Rattle.ol_parse.proofs.Files.{same_depth, whole_occurs}

-- a text has one tree
same_tree : (text : List ℕ) (t u : Tree) (names others : List (List ℕ)) → IsFileOf text t names →
    IsFileOf text u others → t ≡ u
same_tree text t u names others f g = f.tree ∙ ap number (one_term text f.named g.named f.text g.text) ∙ sym g.tree

-- a text of a term that is too deep
pub too_deep : (text : List ℕ) (t : Named) (d : ℕ) → IsText text t → d ≡ named_depth t → 1000 < d → IsTooDeep text d
too_deep text t d i e h =
    let file : IsFileOf text (number t) (names_of t) = record { named = t; text = i; tree = refl; free_names = refl } in
    record { tree = number t; names = names_of t; file = file; is = e ∙ sym (same_depth t (names_of t) []); above = h }

syntax_of : (text : List ℕ) (r : Result TermFile ParseFault) → IfErr r (λ e. IsFault text e) →
    (at : ℕ) → r ≡ Err (Syntax at) → IsRefusedAt text at
syntax_of text (Ok file) refused at h = absurd (cc)
syntax_of text (Err NoMemory) refused at h = absurd (cc)
syntax_of text (Err (Syntax n)) refused at h = let e : n ≡ at = cc in subst (IsRefusedAt text) e refused
syntax_of text (Err (Depth n)) refused at h = absurd (cc)

of_syntax : (text : List ℕ) (r : Result TermFile ParseFault) →
    IfOk r (λ file. IsFileOf text (tree_of file.term) file.names) → IfErr r (λ e. IsFault text e) →
    r ≢ Err NoMemory → (at : ℕ) → IsRefusedAt text at → r ≡ Err (Syntax at)
of_syntax text (Ok file) good refused memory at h = absurd (h.0 good.named good.text)
of_syntax text (Err NoMemory) good refused memory at h = absurd (memory refl)
of_syntax text (Err (Syntax n)) good refused memory at h = ap (λ n. Err (Syntax n))
    (one_dead_place text n at refused.1 h.1)
of_syntax text (Err (Depth n)) good refused memory at h = absurd (h.0 refused.file.named refused.file.text)

depth_of : (text : List ℕ) (r : Result TermFile ParseFault) → IfErr r (λ e. IsFault text e) →
    (d : ℕ) → r ≡ Err (Depth d) → IsTooDeep text d
depth_of text (Ok file) refused d h = absurd (cc)
depth_of text (Err NoMemory) refused d h = absurd (cc)
depth_of text (Err (Syntax n)) refused d h = absurd (cc)
depth_of text (Err (Depth n)) refused d h = let e : n ≡ d = cc in subst (IsTooDeep text) e refused

of_depth : (text : List ℕ) (r : Result TermFile ParseFault) →
    IfOk r (λ file. IsFileOf text (tree_of file.term) file.names) →
    IfOk r (λ file. tree.depth (tree_of file.term) ≤ 1000) → IfErr r (λ e. IsFault text e) →
    r ≢ Err NoMemory → (d : ℕ) → IsTooDeep text d → r ≡ Err (Depth d)
of_depth text (Ok file) good shallow refused memory d h =
    let e = ap tree.depth (same_tree text (tree_of file.term) h.tree file.names h.names good h.file) in
    let i = h.is in
    let a = h.above in
    absurd (omega arith)
of_depth text (Err NoMemory) good shallow refused memory d h = absurd (memory refl)
of_depth text (Err (Syntax n)) good shallow refused memory d h = absurd (refused.0 h.file.named h.file.text)
of_depth text (Err (Depth n)) good shallow refused memory d h =
    let e = ap tree.depth (same_tree text refused.tree h.tree refused.names h.names refused.file h.file) in
    let i = h.is in
    let j = refused.is in
    let same : n ≡ d = omega arith in
    ap (λ n. Err (Depth n)) same

pub syntax_exact : (text : List ℕ) (r : Result TermFile ParseFault) →
    IfOk r (λ file. IsFileOf text (tree_of file.term) file.names) → IfErr r (λ e. IsFault text e) →
    r ≢ Err NoMemory → (at : ℕ) → (r ≡ Err (Syntax at)) ↔ IsRefusedAt text at
syntax_exact text r good refused memory at = (syntax_of text r refused at, of_syntax text r good refused memory at)

pub depth_exact : (text : List ℕ) (r : Result TermFile ParseFault) →
    IfOk r (λ file. IsFileOf text (tree_of file.term) file.names) →
    IfOk r (λ file. tree.depth (tree_of file.term) ≤ 1000) → IfErr r (λ e. IsFault text e) →
    r ≢ Err NoMemory → (d : ℕ) → (r ≡ Err (Depth d)) ↔ IsTooDeep text d
depth_exact text r good shallow refused memory d = (
  depth_of text r refused d,
  of_depth text r good shallow refused memory d,
)

pub names_occur : (text : List ℕ) (r : Result TermFile ParseFault) →
    IfOk r (λ file. IsFileOf text (tree_of file.term) file.names) →
    IfOk r (λ file. (k : ℕ) → k < length file.names → has_name k (tree_of file.term) ≡ true)
names_occur text (Ok file) good = λ k h.
    let e = ap length good.free_names in
    ap (has_name k) good.tree ∙ whole_occurs good.named k (omega arith)
names_occur text (Err e) good = tt

-- the term that the steps of a text build is no larger than the text
pub few_in_text : (text : List ℕ) (ops now : List Op) (t : Named) → IsText text t →
    built ops ≡ Some (t ∷ []) → now ≡ ops → length text ≤ 1073741824 → leaves (whole now) ≤ 4294967295
few_in_text text ops now t i b e l =
    let n = ap leaves (whole_is now t (ap built e ∙ b)).1 in
    let few = few_leaves text t i in
    omega arith

pub one_file : (text : List ℕ) (t u : Tree) (names others : List (List ℕ)) → IsFileOf text t names →
    IsFileOf text u others → (t ≡ u) × (names ≡ others)
one_file text t u names others f g = (
  same_tree text t u names others f g,
  f.free_names
      ∙ ap names_of (one_term text f.named g.named f.text g.text) ∙ sym g.free_names,
)

-- a text that isn't too deep is taken
pub taken : (text : List ℕ) (r : Result TermFile ParseFault) → IfErr r (λ e. IsFault text e) →
    r ≢ Err NoMemory → (t : Tree) (names : List (List ℕ)) → IsFileOf text t names → tree.depth t ≤ 1000 → IsOk r
taken text (Ok file) refused memory t names f h = refl
taken text (Err NoMemory) refused memory t names f h = absurd (memory refl)
taken text (Err (Syntax n)) refused memory t names f h = absurd (refused.0 f.named f.text)
taken text (Err (Depth n)) refused memory t names f h =
    let e = ap tree.depth (same_tree text t refused.tree names refused.names f refused.file) in
    let i = refused.is in
    let a = refused.above in
    absurd (omega arith)

pub names_are : (text : List ℕ) (r : Result TermFile ParseFault) →
    IfOk r (λ file. IsFileOf text (tree_of file.term) file.names) → IfOk r (λ file. AreNames file.names)
names_are text (Ok file) good = subst AreNames (sym good.free_names) (names_good text good.named good.text)
names_are text (Err e) good = tt
