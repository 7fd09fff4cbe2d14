-- Convertible terms that show their first heads show the same ones: those of the tree that one of them fills.
use Rattle.std.proofs.Common.{◌≡◌, ℕ, zero, suc, ◌+◌, Bool, true, false, List, [], ◌∷◌, ◌++◌, length, append-nil, map}
use Rattle.std.proofs.Common.{refl, sym, ap, ◌∙◌, subst}
use Rattle.std.proofs.lemmas.List.{append_assoc}
use Rattle.ol_law_confluence.specs.Reductions.{Convertible, AreConvertible}
use Rattle.ol_law_confluence.proofs.HeadForms.{heads_agree}
use Rattle.ol_law_meaning.specs.Shows.{IsVariable, Shown, Fills, applied}
use Rattle.ol_readback.specs.ReadTrees.{Subterm}
use Rattle.ol_readback.specs.Terms.{abstracted, variable_of}
use Rattle.ol_readback.specs.Whole.{Part, preorder}
use Rattle.ol_readback.specs.Whole as whole
use Rattle.ol_readback.specs.declared.answers.HeadVar.{HeadVar}
use Rattle.ol_readback.specs.declared.answers.HeadVar.TheVariants as var
use Rattle.ol_readback.specs.declared.answers.ReadNode.{ReadNode}
use Rattle.ol_readback.specs.declared.answers.ReadNode.TheVariants as node
use Rattle.ol_term.specs.Trees.{Tree}
use Rattle.ol_term.specs.Trees as trees
use Rattle.ol_law_optimality.specs.FirstHeads.{ShowsHeads, not_asked, at_var, at_free, at_lam, at_app, HaveHeads}
use Rattle.ol_law_optimality.proofs.FirstHeadsNeeded.{shown_head}

-- each place after the first n was cut
abbrev pub CutAfter : ℕ → List ReadNode → Type 0
CutAfter zero [] = Unit {0}
CutAfter zero (node.Cut ∷ ns) = CutAfter zero ns
CutAfter zero (node.NoHead ∷ ns) = ⊥
CutAfter zero (node.Head l v k ∷ ns) = ⊥
CutAfter (suc n) [] = Unit {0}
CutAfter (suc n) (x ∷ ns) = CutAfter n ns

pub all_cut : (ss : List Subterm) (n : ℕ) → CutAfter n (map (λ s. node.Cut) ss)
all_cut [] zero = tt
all_cut [] (suc n) = tt
all_cut (s ∷ ss) zero = all_cut ss zero
all_cut (s ∷ ss) (suc n) = all_cut ss n

-- ---- the arguments of a term that shows its first heads

abbrev ArgsShow : ℕ → List Tree → ℕ → Type 0
ArgsShow k [] m = k ≡ m
ArgsShow k (Q ∷ Qs) m = (j : ℕ) × ShowsHeads k Q j × ArgsShow j Qs m

args_show : {n m : ℕ} (Qs : List Tree) (f : Tree) → ShowsHeads (suc n) (applied f Qs) m →
    (k : ℕ) × ShowsHeads (suc n) f k × ArgsShow k Qs m
args_show {m = m} [] f h = (m, h, refl)
args_show {n = n} {m = m} (Q ∷ Qs) f h = let x = args_show Qs (trees.app f Q) h in by x.0 x.1 x.2
  where
    by : (k : ℕ) → ShowsHeads (suc n) (trees.app f Q) k → ArgsShow k Qs m →
        (k : ℕ) × ShowsHeads (suc n) f k × ArgsShow k (Q ∷ Qs) m
    by k (at_app {k = j} e g z) a = (j, g, (k, z, a))

lam_shows : {n m : ℕ} (l : ℕ) (t : Tree) → ShowsHeads (suc n) (abstracted l t) m → ShowsHeads (suc n) t m
lam_shows zero t h = h
lam_shows (suc l) t (at_lam h) = lam_shows l t h

variable_left : {n k : ℕ} (x : Tree) → IsVariable x → ShowsHeads (suc n) x k → k ≡ n
variable_left (trees.var y) e at_var = refl
variable_left (trees.free f) e at_free = refl
variable_left (trees.lam t) e h = absurd e
variable_left (trees.app f a) e h = absurd e

is_variable : (ss : List (ℕ × ℕ)) (v : HeadVar) → IsVariable (variable_of ss v)
is_variable ss (var.Bound i j) = tt
is_variable ss (var.Free q) = tt

-- ---- a term that is convertible with one that fills a tree

abbrev AndRest : (c : Bool) → Part c → List (ℕ × ℕ) → ℕ → Shown c → ℕ → List ReadNode → Type 0
AndRest c P ss i w m rest = Fills false ss i P w × HaveHeads m rest × CutAfter m rest

abbrev Goal : (c : Bool) → Part c → List (ℕ × ℕ) → ℕ → Shown c → Shown c → Bool → ℕ → ℕ → List ReadNode → Type 0
Goal true P ss i t w b n m rest = Fills b ss i P t → Convertible t w → ShowsHeads n w m →
    HaveHeads n (preorder P ++ rest) → CutAfter n (preorder P ++ rest) → AndRest true P ss i w m rest
Goal false P ss i Ps Qs b n m rest = Fills b ss i P Ps → AreConvertible Ps Qs → ArgsShow n Qs m →
    HaveHeads n (preorder P ++ rest) → CutAfter n (preorder P ++ rest) → AndRest false P ss i Qs m rest

past_cut : (ss : List (ℕ × ℕ)) (i : ℕ) (w : Tree) (m : ℕ) (rest : List ReadNode) → ShowsHeads 0 w m →
    CutAfter 0 rest → AndRest true whole.cut ss i w m rest
past_cut ss i w m rest not_asked c = (tt, tt, c)

fills_too : {c : Bool} (P : Part c) (ss : List (ℕ × ℕ)) (i : ℕ) (t w : Shown c) (b : Bool) (n m : ℕ)
    (rest : List ReadNode) → Goal c P ss i t w b n m rest
fills_too (whole.term l v ts) ss i t w b zero m rest = λ f e s h c. absurd c
fills_too (whole.term l v ts) ss i t w b (suc n) m rest = λ f e s h c.
    let x = variable_of ((i, l) ∷ ss) v in
    let k = shown_head s in
    let a = heads_agree l k.abstractions x k.head f.0 k.arguments (is_variable ((i, l) ∷ ss) v) k.variable
    (subst (λ t. Convertible t (abstracted k.abstractions (applied k.head k.arguments))) f.1
    (subst (λ w. Convertible t w) k.is e)) in
    let q : w ≡ abstracted l (applied x k.arguments) = k.is
    ∙ ap (λ l. abstracted l (applied k.head k.arguments)) (sym a.0)
    ∙ ap (λ y. abstracted l (applied y k.arguments)) (sym a.1) in
    let y = args_show k.arguments x (lam_shows l (applied x k.arguments) (subst (λ w. ShowsHeads (suc n) w m) q s)) in
    let r = fills_too ts ((i, l) ∷ ss) (suc i) f.0 k.arguments b n m rest f.2 a.2
    (subst (λ j. ArgsShow j k.arguments m) (variable_left x (is_variable ((i, l) ∷ ss) v) y.1) y.2) h c in
    ((k.arguments, q, r.0), r.1, r.2)
fills_too whole.lost ss i t w b zero m rest = λ f e s h c. absurd c
fills_too whole.lost ss i t w b (suc n) m rest = λ f e s h c. absurd h
fills_too whole.cut ss i t w b zero m rest = λ f e s h c. past_cut ss i w m rest s c
fills_too whole.cut ss i t w b (suc n) m rest = λ f e s h c. absurd h
fills_too whole.none ss i Ps [] b n m rest = λ f e s h c.
    (refl, subst (λ n. HaveHeads n rest) s h, subst (λ n. CutAfter n rest) s c)
fills_too whole.none ss i [] (Q ∷ Qs) b n m rest = λ f e s h c. absurd e
fills_too whole.none ss i (P ∷ Ps) (Q ∷ Qs) b n m rest = λ f e s h c. absurd (no_cons f)
  where
    no_cons : {X : Type 0} {x : X} {xs : List X} → x ∷ xs ≡ [] → ⊥
    no_cons e = absurd (cc)
fills_too (whole.more u us) ss i [] Qs b n m rest = λ f e s h c. absurd f
fills_too (whole.more u us) ss i (P ∷ Ps) [] b n m rest = λ f e s h c. absurd e
fills_too (whole.more u us) ss i (P ∷ Ps) (Q ∷ Qs) b n m rest = λ f e s h c.
    let a = append_assoc (preorder u) (preorder us) rest in
    let x = fills_too u ss i P Q b n s.0 (preorder us ++ rest) f.0 e.0 s.1 (subst (HaveHeads n) a h)
    (subst (CutAfter n) a c) in
    let y = fills_too us ss (i + length (preorder u)) Ps Qs b s.0 m rest f.1 e.1 s.2 x.1 x.2 in
    ((x.0, y.0), y.1, y.2)

pub fills_same : (P : Part true) (t w : Tree) (b : Bool) (n m : ℕ) → Fills b [] 0 P t → Convertible t w →
    ShowsHeads n w m → HaveHeads n (preorder P) → CutAfter n (preorder P) → Fills false [] 0 P w
fills_same P t w b n m f e s h c =
    let a = sym (append-nil (preorder P)) in
    (fills_too P [] 0 t w b n m [] f e s (subst (HaveHeads n) a h) (subst (CutAfter n) a c)).0
