-- The tokens of a printed tree, and the term with names that the grammar gives them.
use Rattle.std.proofs.Common.{◌≡◌, ℕ, zero, suc, ◌+◌, List, [], ◌∷◌, ◌++◌, map, Bool, true, false}
use Rattle.std.proofs.Common.{cond, refl, sym, subst, append_assoc}
use Rattle.std.proofs.lemmas.List.{append-nil}
use Rattle.ol_term.specs.BinderNames.{binder_name}
use Rattle.ol_parse.specs.Grammar as grammar
use Rattle.ol_parse.specs.Grammar.{Named, Token, name, lambda, dot, open_bracket, close_bracket}
use Rattle.ol_parse.specs.Grammar.{lams, IsTerm, term_body, term_spine, IsSpine, spine_one}
use Rattle.ol_parse.specs.Grammar.{spine_more, IsAtom, atom_name, atom_brackets, body_lambda}
use Rattle.ol_readback.specs.Whole.{Part, term, lost, cut, none, more, preorder}
use Rattle.ol_readback.specs.Texts.{variable, is_bare}
use Rattle.ol_readback.specs.Terms.{HasAllHeads}
use Rattle.ol_readback.proofs.OneTree.{all_left, all_right}

-- the names of binders t to t + l - 1
abbrev pub binders : List (List ℕ) → ℕ → ℕ → List (List ℕ)
binders names t zero = []
binders names t (suc l) = binder_name names t ∷ binders names (suc t) l

-- what stands under these abstractions
abbrev pub under : List (List ℕ) → ℕ → ℕ → List Token → List Token
under names t zero ks = ks
under names t (suc l) ks = lambda ∷ (map name (binders names t (suc l)) ++ (dot ∷ ks))

abbrev pub in_brackets : Bool → List Token → List Token
in_brackets bare ks = cond bare ks (open_bracket ∷ (ks ++ (close_bracket ∷ [])))

-- the tokens of a part with t binders round it
abbrev pub tokens : {b : Bool} → List (List ℕ) → List ℕ → ℕ → Part b → List Token
tokens names rs t (term l v ts) = under names t l (name (variable names rs v) ∷ tokens names rs (t + l) ts)
tokens names rs t lost = []
tokens names rs t cut = []
tokens names rs t none = []
tokens names rs t (more u us) = in_brackets (is_bare u) (tokens names rs t u) ++ tokens names rs t us

abbrev pub Made : Bool → Type 0
Made true = Named
Made false = Named → Named

-- its term with names, or what applies one to arguments
abbrev pub made : {b : Bool} → List (List ℕ) → List ℕ → ℕ → Part b → Made b
made names rs t (term l v ts) = lams (binders names t l) (made names rs (t + l) ts (grammar.var (variable names rs v)))
made names rs t lost = grammar.var []
made names rs t cut = grammar.var []
made names rs t none = λ f. f
made names rs t (more u us) = λ f. made names rs t us (grammar.app f (made names rs t u))

abbrev IsMade : (b : Bool) → List Token → Made b → Type 0
IsMade true ks t = IsTerm ks t
IsMade false ks h = (a : List Token) (f : Named) → IsSpine a f → IsSpine (a ++ ks) (h f)

-- what needs no brackets is an atom
bare_atom : (names : List (List ℕ)) (rs : List ℕ) (t : ℕ) (u : Part true) → is_bare u ≡ true →
    HasAllHeads (preorder u) → IsAtom (tokens names rs t u) (made names rs t u)
bare_atom names rs t (term zero v none) e h = atom_name
bare_atom names rs t (term zero v (more u us)) e h = absurd (cc)
bare_atom names rs t (term (suc l) v ts) e h = absurd (cc)
bare_atom names rs t lost e h = absurd h
bare_atom names rs t cut e h = absurd h

atom : (names : List (List ℕ)) (rs : List ℕ) (t : ℕ) (u : Part true) (bare : Bool) →
    is_bare u ≡ bare → HasAllHeads (preorder u) → IsTerm (tokens names rs t u) (made names rs t u) →
    IsAtom (in_brackets bare (tokens names rs t u)) (made names rs t u)
atom names rs t u true e h i = bare_atom names rs t u e h
atom names rs t u false e h i = atom_brackets i

grammatical : {b : Bool} (names : List (List ℕ)) (rs : List ℕ) (t : ℕ) (p : Part b) →
    HasAllHeads (preorder p) → IsMade b (tokens names rs t p) (made names rs t p)
grammatical names rs t (term zero v ts) h = term_spine
    (grammatical names rs (t + 0) ts h (name (variable names rs v) ∷ [])
    (grammar.var (variable names rs v)) (spine_one atom_name))
grammatical names rs t (term (suc l) v ts) h =
    term_body (body_lambda (binder_name names t) (binders names (suc t) l)
    (term_spine (grammatical names rs (t + suc l) ts h (name (variable names rs v) ∷ [])
    (grammar.var (variable names rs v)) (spine_one atom_name))))
grammatical names rs t lost h = absurd h
grammatical names rs t cut h = absurd h
grammatical names rs t none h = λ a f s. subst (λ (k : List Token). IsSpine k f) (sym (append-nil a)) s
grammatical names rs t (more u us) h = λ a f s.
    subst (λ (k : List Token). IsSpine k (made names rs t us (grammar.app f (made names rs t u))))
    (append_assoc a (in_brackets (is_bare u) (tokens names rs t u)) (tokens names rs t us))
    (grammatical names rs t us (all_right (preorder u) (preorder us) h)
    (a ++ in_brackets (is_bare u) (tokens names rs t u)) (grammar.app f (made names rs t u))
    (spine_more s (atom names rs t u (is_bare u) refl (all_left (preorder u) (preorder us) h)
    (grammatical names rs t u (all_left (preorder u) (preorder us) h)))))

pub tree_is_term : (names : List (List ℕ)) (rs : List ℕ) (u : Part true) →
    HasAllHeads (preorder u) → IsTerm (tokens names rs 0 u) (made names rs 0 u)
tree_is_term names rs u h = grammatical names rs 0 u h
