-- A tree with the names that it is printed with has its printed text.
use Rattle.std.proofs.Common.{◌≡◌, ℕ, ◌+◌, Bool, true, false, List, ◌∷◌, ◌++◌, refl, ap, ◌∙◌}
use Rattle.std.specs.Prelude.{not, if◌then◌else◌}
use Rattle.std.proofs.lemmas.List.{append-nil}
use Rattle.ol_term.specs.Trees as tree
use Rattle.ol_term.specs.Trees.{Tree}
use Rattle.ol_term.specs.BinderNames.{binder_name}
use Rattle.ol_term.specs.Texts as texts
use Rattle.ol_term.specs.Texts.{before_binder, before_body, in_brackets, term_text_under}
use Rattle.ol_steps.specs.NamedTexts.{is_abstraction, is_name, bracketed, named_text}
use Rattle.ol_steps.specs.Lettered.{lettered}

function : (d : Bool) (x : List ℕ) → bracketed d x ≡ (if d then in_brackets x else x)
function true x = refl
function false x = append-nil x

argument : (d : Bool) (x : List ℕ) → bracketed (not d) x ≡ (if d then x else in_brackets x)
argument true x = append-nil x
argument false x = refl

is_lam : (names : List (List ℕ)) (t : ℕ) (u : Tree) → is_abstraction (lettered names t u) ≡ texts.is_abstraction u
is_lam names t (tree.var k) = refl
is_lam names t (tree.free k) = refl
is_lam names t (tree.lam u) = refl
is_lam names t (tree.app f a) = refl

is_var : (names : List (List ℕ)) (t : ℕ) (u : Tree) → is_name (lettered names t u) ≡ texts.is_variable u
is_var names t (tree.var k) = refl
is_var names t (tree.free k) = refl
is_var names t (tree.lam u) = refl
is_var names t (tree.app f a) = refl

pub lettered_text : (names : List (List ℕ)) (body : Bool) (t : ℕ) (u : Tree) →
    named_text body (lettered names t u) ≡ term_text_under names body t u
lettered_text names body t (tree.var k) = refl
lettered_text names body t (tree.free k) = refl
lettered_text names body t (tree.lam u) =
    ap (λ (x : List ℕ). before_binder body ++ (binder_name names t ++ x)) (lettered_text names true (t + 1) u)
lettered_text names body t (tree.app f a) =
    let F = lettered names t f in
    let A = lettered names t a in
    let end = bracketed (not (is_name A)) (named_text false A) in
    ap (λ (x : List ℕ). before_body body ++ (bracketed (is_abstraction F) x ++ (32 ∷ end))) (lettered_text names false t f)
    ∙ ap (λ (d : Bool). before_body body ++ (bracketed d (term_text_under names false t f) ++ (32 ∷ end))) (is_lam names t f)
    ∙ ap (λ (x : List ℕ). before_body body ++ (x ++ (32 ∷ end)))
    (function (texts.is_abstraction f) (term_text_under names false t f))
    ∙ ap (λ (x : List ℕ). before_body body ++ ((if texts.is_abstraction f then in_brackets (term_text_under names false t f)
    else term_text_under names false t f) ++ (32 ∷ x)))
    (ap (λ (x : List ℕ). bracketed (not (is_name A)) x) (lettered_text names false t a)
    ∙ ap (λ (d : Bool). bracketed (not d) (term_text_under names false t a)) (is_var names t a)
    ∙ argument (texts.is_variable a) (term_text_under names false t a))
