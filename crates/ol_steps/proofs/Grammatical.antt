-- The tokens of a term with names as it is printed, and that the grammar gives them the term.
use Rattle.std.proofs.Common.{◌≡◌, ℕ, List, [], ◌∷◌, ◌++◌, map, Bool, true, false, not, cond, refl, sym, ap, subst}
use Rattle.ol_parse.specs.Grammar.{Named, var, lam, app, Token, name, lambda, dot, open_bracket, close_bracket}
use Rattle.ol_parse.specs.Grammar.{lams, IsTerm, term_body, term_spine, IsSpine, spine_one}
use Rattle.ol_parse.specs.Grammar.{spine_more, IsAtom, atom_name, atom_brackets, body_lambda}
use Rattle.ol_steps.specs.NamedTexts.{is_abstraction, is_name}

abbrev pub in_brackets : Bool → List Token → List Token
in_brackets needed ks = cond needed (open_bracket ∷ (ks ++ (close_bracket ∷ []))) ks

-- the tokens of a term; of the body of a binder just before it, where the test says so
abbrev pub tokens : Bool → Named → List Token
tokens false (var x) = name x ∷ []
tokens true (var x) = dot ∷ name x ∷ []
tokens false (lam x t) = lambda ∷ name x ∷ tokens true t
tokens true (lam x t) = name x ∷ tokens true t
tokens false (app f a) = in_brackets (is_abstraction f) (tokens false f) ++ in_brackets (not (is_name a)) (tokens false a)
tokens true (app f a) =
    dot ∷ (in_brackets (is_abstraction f) (tokens false f) ++ in_brackets (not (is_name a)) (tokens false a))

-- further binders, a dot and a term
pub record IsOpened (t : Named) : Type 0 where
  pub binders : List (List ℕ)
  pub ks : List Token
  pub body : Named
  pub term : IsTerm ks body
  pub is : t ≡ lams binders body
  pub tokens_are : tokens true t ≡ map name binders ++ (dot ∷ ks)

pub record IsGrammatical (t : Named) : Type 0 where
  pub term : IsTerm (tokens false t) t
  pub spine : is_abstraction t ≡ false → IsSpine (tokens false t) t
  pub opened : IsOpened t

function : (f : Named) (b : Bool) → is_abstraction f ≡ b → IsGrammatical f → IsSpine (in_brackets b (tokens false f)) f
function f true e g = spine_one (atom_brackets g.term)
function f false e g = g.spine e

atom_of : (a : Named) (b : Bool) → is_name a ≡ b → IsGrammatical a → IsAtom (in_brackets (not b) (tokens false a)) a
atom_of (var x) true e g = atom_name
atom_of (lam x t) true e g = absurd (cc)
atom_of (app f t) true e g = absurd (cc)
atom_of a false e g = atom_brackets g.term

pub grammatical : (t : Named) → IsGrammatical t
grammatical (var x) = record {
  term = term_spine (spine_one atom_name);
  spine = λ e. spine_one atom_name;
  opened = record {
    binders = [];
    ks = name x ∷ [];
    body = var x;
    term = term_spine (spine_one atom_name);
    is = refl;
    tokens_are = refl;
  };
}
grammatical (lam x t) =
    let o = (grammatical t).opened in
    record {
      term = subst (λ (u : Named). IsTerm (lambda ∷ name x ∷ tokens true t) (lam x u)) (sym o.is)
          (subst (λ (ks : List Token). IsTerm (lambda ∷ name x ∷ ks) (lam x (lams o.binders o.body))) (sym o.tokens_are)
          (term_body (body_lambda x o.binders o.term)));
      spine = λ e. absurd (cc);
      opened = record {
        binders = x ∷ o.binders;
        ks = o.ks;
        body = o.body;
        term = o.term;
        is = ap (λ (u : Named). lam x u) o.is;
        tokens_are = ap (λ (ks : List Token). name x ∷ ks) o.tokens_are;
      };
    }
grammatical (app f a) =
    let g = grammatical f in
    let h = grammatical a in
    let s : IsSpine (tokens false (app f a)) (app f a) =
    spine_more (function f (is_abstraction f) refl g) (atom_of a (is_name a) refl h) in
    record {
      term = term_spine s;
      spine = λ e. s;
      opened = record {
        binders = [];
        ks = tokens false (app f a);
        body = app f a;
        term = term_spine s;
        is = refl;
        tokens_are = refl;
      };
    }
