-- Whatever application stands at an address, its text stands in the term's text at one place.
use Rattle.std.proofs.Common.{◌≡◌, ℕ, Bool, true, false, List, [], ◌∷◌, ◌++◌, append_assoc, refl, sym, ap, ◌∙◌}
use Rattle.std.specs.Prelude.{not}
use Rattle.std.proofs.lemmas.List.{append-nil}
use Rattle.ol_term.specs.Texts.{before_binder, before_body}
use Rattle.ol_parse.specs.Grammar.{Named, lam, app}
use Rattle.ol_steps.specs.NamedTexts.{is_abstraction, is_name, left_bracket, right_bracket, bracketed, named_text}
use Rattle.ol_steps.specs.Marks.{part, replaced, text_before}
use Rattle.ol_steps.specs.TextLaws.{LeadsToApplication, here, into_body, into_function, into_argument, MarkIsUnder}

-- ---- what is at the address may be put there

pub itself : {t : Named} {at : List ℕ} → LeadsToApplication t at → replaced t at (part t at) ≡ t
itself here = refl
itself (into_body {x = x} l) = ap (λ (t : Named). lam x t) (itself l)
itself (into_function {a = a} l) = ap (λ (t : Named). app t a) (itself l)
itself (into_argument {f = f} l) = ap (λ (t : Named). app f t) (itself l)

abbrev IsApplied : Named → Type 0
IsApplied u = (f : Named) × (a : Named) × (u ≡ app f a)

pub part_is : {t : Named} {at : List ℕ} → LeadsToApplication t at → IsApplied (part t at)
part_is (here {f = f} {a = a}) = (f, a, refl)
part_is (into_body l) = part_is l
part_is (into_function l) = part_is l
part_is (into_argument l) = part_is l

-- ---- a subterm keeps its brackets

kept_lam : {t : Named} {at : List ℕ} → LeadsToApplication t at → (f a : Named) →
    is_abstraction (replaced t at (app f a)) ≡ is_abstraction t
kept_lam here f a = refl
kept_lam (into_body l) f a = refl
kept_lam (into_function l) f a = refl
kept_lam (into_argument l) f a = refl

kept_name : {t : Named} {at : List ℕ} → LeadsToApplication t at → (f a : Named) →
    is_name (replaced t at (app f a)) ≡ is_name t
kept_name here f a = refl
kept_name (into_body l) f a = refl
kept_name (into_function l) f a = refl
kept_name (into_argument l) f a = refl

-- ---- lists

-- brackets round a text that is b, u and more
inside : (d : Bool) (b u r : List ℕ) → bracketed d (b ++ (u ++ r)) ≡ (left_bracket d ++ b) ++ (u ++ (r ++ right_bracket d))
inside d b u r =
    ap (λ (x : List ℕ). left_bracket d ++ x) (append_assoc b (u ++ r) (right_bracket d)
    ∙ ap (λ (x : List ℕ). b ++ x) (append_assoc u r (right_bracket d)))
    ∙ sym (append_assoc (left_bracket d) b (u ++ (r ++ right_bracket d)))

-- a text before, and one behind
within : (p b u r q : List ℕ) → p ++ ((b ++ (u ++ r)) ++ q) ≡ (p ++ b) ++ (u ++ (r ++ q))
within p b u r q =
    ap (λ (x : List ℕ). p ++ x) (append_assoc b (u ++ r) q ∙ ap (λ (x : List ℕ). b ++ x) (append_assoc u r q))
    ∙ sym (append_assoc p b (u ++ (r ++ q)))

-- ---- texts

abbrev Stands : Bool → Named → List ℕ → Type 0
Stands body t at = (after : List ℕ) × ((f a : Named) → named_text body (replaced t at (app f a))
    ≡ text_before body t at ++ (named_text false (app f a) ++ after))

pub stands : {t : Named} {at : List ℕ} (body : Bool) → LeadsToApplication t at → Stands body t at
stands body here = ([], λ f a. ap (λ (x : List ℕ). before_body body ++ x) (sym (append-nil (named_text false (app f a)))))
stands body (into_body {x = x} {t = t} {at = at} l) =
    let r = stands true l in (
      r.0,
      λ f a.
          ap (λ (y : List ℕ). before_binder body ++ (x ++ y)) (r.1 f a)
          ∙ ap (λ (y : List ℕ). before_binder body ++ y)
          (sym (append_assoc x (text_before true t at) (named_text false (app f a) ++ r.0)))
          ∙ sym (append_assoc (before_binder body) (x ++ text_before true t at) (named_text false (app f a) ++ r.0)),
    )
stands body (into_function {f = t} {a = c} {at = at} l) =
    let r = stands false l in
    let d = is_abstraction t in
    let rest = 32 ∷ bracketed (not (is_name c)) (named_text false c) in (
      (r.0 ++ right_bracket d) ++ rest,
      λ f a.
          let u = named_text false (app f a) in
          let s = replaced t at (app f a) in
          ap (λ (e : Bool). before_body body ++ (bracketed e (named_text false s) ++ rest)) (kept_lam l f a)
          ∙ ap (λ (y : List ℕ). before_body body ++ (bracketed d y ++ rest)) (r.1 f a)
          ∙ ap (λ (y : List ℕ). before_body body ++ (y ++ rest)) (inside d (text_before false t at) u r.0)
          ∙ within (before_body body) (left_bracket d ++ text_before false t at) u (r.0 ++ right_bracket d) rest,
    )
stands body (into_argument {f = c} {a = t} {at = at} l) =
    let r = stands false l in
    let d = not (is_name t) in
    let front = bracketed (is_abstraction c) (named_text false c) in (
      r.0 ++ right_bracket d,
      λ f a.
          let u = named_text false (app f a) in
          let s = replaced t at (app f a) in
          ap (λ (e : Bool). before_body body ++ (front ++ (32 ∷ bracketed (not e) (named_text false s)))) (kept_name l f a)
          ∙ ap (λ (y : List ℕ). before_body body ++ (front ++ (32 ∷ bracketed d y))) (r.1 f a)
          ∙ ap (λ (y : List ℕ). before_body body ++ (front ++ (32 ∷ y))) (inside d (text_before false t at) u r.0)
          ∙ ap (λ (y : List ℕ). before_body body ++ y)
          (sym (append_assoc front (32 ∷ (left_bracket d ++ text_before false t at)) (u ++ (r.0 ++ right_bracket d))))
          ∙ sym (append_assoc (before_body body) (front ++ (32 ∷ (left_bracket d ++ text_before false t at)))
          (u ++ (r.0 ++ right_bracket d))),
    )

pub mark_is_under : MarkIsUnder
mark_is_under t at l =
    let r = stands false l in
    let p = part_is l in
    record {
      before = text_before false t at;
      after = r.0;
      each = r.1;
      carets = refl;
      itself = sym (ap (λ (u : Named). named_text false u) (itself l))
          ∙ ap (λ (u : Named). named_text false (replaced t at u)) p.2
          ∙ r.1 p.0 p.1
          ∙ ap (λ (u : Named). text_before false t at ++ (named_text false u ++ r.0)) (sym p.2);
    }
