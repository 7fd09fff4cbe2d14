-- The printed text of a term with names spells its tokens.
use Rattle.std.proofs.Common.{◌≡◌, ℕ, List, [], ◌∷◌, ◌++◌, Bool, true, false, not, refl, sym, subst}
use Rattle.std.proofs.Common.{append_assoc}
use Rattle.std.specs.Prelude.{◌≢◌}
use Rattle.std.proofs.lemmas.List.{append-nil}
use Rattle.ol_parse.specs.Grammar.{Named, var, lam, app, Token, name, lambda, dot, open_bracket, close_bracket}
use Rattle.ol_parse.specs.Texts.{class_of, is_word, IsGap, gap_none, gap_blank, last_gap, IsToken}
use Rattle.ol_parse.specs.Texts.{token_sign, Spells, spells_none, spells_one}
use Rattle.ol_steps.specs.NamedTexts.{is_abstraction, is_name, bracketed, named_text}
use Rattle.ol_steps.specs.BinderLaws.{AllNames, NamedIsRead}
use Rattle.ol_steps.proofs.Grammatical.{in_brackets, tokens, grammatical}

-- whatever stands before
abbrev IsSpelled : List Token → List ℕ → Type 0
IsSpelled ks bs = (after : Bool) → Spells after ks bs

space : IsGap (32 ∷ [])
unfolding class_of
space = gap_blank refl gap_none

slash : IsToken lambda (92 ∷ [])
unfolding class_of
slash = token_sign refl

point : IsToken dot (46 ∷ [])
unfolding class_of
point = token_sign refl

left : IsToken open_bracket (40 ∷ [])
unfolding class_of
left = token_sign refl

right : IsToken close_bracket (41 ∷ [])
unfolding class_of
right = token_sign refl

-- a gap before what follows
abbrev IsApart : Bool → List ℕ → Type 0
IsApart after g = IsGap g × (after ≡ true → g ≢ [])

by_space : (after : Bool) → IsApart after (32 ∷ [])
by_space after = (space, λ e z. absurd (cc))

no_gap : IsApart false []
no_gap = (gap_none, λ e. absurd (cc))

-- a token behind a gap
one : {after : Bool} {k : Token} {a : List ℕ} {ks : List Token} {bs : List ℕ} (g : List ℕ) → IsApart after g →
    IsToken k a → IsSpelled ks bs → Spells after (k ∷ ks) (g ++ (a ++ bs))
one {k = k} g p i s = spells_one {g = g} p.0 (λ e w. p.1 e) i (s (is_word k))

-- a sign with nothing before it
sign : {k : Token} {a : List ℕ} {ks : List Token} {bs : List ℕ} → is_word k ≡ false → IsToken k a →
    IsSpelled ks bs → IsSpelled (k ∷ ks) (a ++ bs)
sign {k = k} n i s = λ after. spells_one {g = []} gap_none (λ x y. absurd (cc)) i (s (is_word k))

-- a term behind a gap, and a body behind its binder, whatever follows
abbrev Leads : Named → Type 0
Leads t = (after : Bool) (g : List ℕ) → IsApart after g → (ks : List Token) (bs : List ℕ) → IsSpelled ks bs →
    Spells after (tokens false t ++ ks) (g ++ (named_text false t ++ bs))

abbrev Follows : Named → Type 0
Follows t = (ks : List Token) (bs : List ℕ) → IsSpelled ks bs → IsSpelled (tokens true t ++ ks) (named_text true t ++ bs)

-- in brackets, where they are needed
enclosed : (t : Named) (b : Bool) → Leads t → (after : Bool) (g : List ℕ) → IsApart after g →
    (ks : List Token) (bs : List ℕ) → IsSpelled ks bs →
    Spells after (in_brackets b (tokens false t) ++ ks) (g ++ (bracketed b (named_text false t) ++ bs))
enclosed t true each after g p ks bs s =
    let inside : Spells false (tokens false t ++ (close_bracket ∷ ks)) (named_text false t ++ (41 ∷ bs)) =
    each false [] no_gap (close_bracket ∷ ks) (41 ∷ bs) (sign refl right s) in
    let text = sym (append_assoc (named_text false t) (41 ∷ []) bs) in
    let row = sym (append_assoc (tokens false t) (close_bracket ∷ []) ks) in
    subst (λ (x : List ℕ). Spells after (open_bracket ∷ ((tokens false t ++ (close_bracket ∷ [])) ++ ks)) (g ++ (40 ∷ x))) text
    (subst (λ (x : List Token). Spells after (open_bracket ∷ x) (g ++ (40 ∷ (named_text false t ++ (41 ∷ bs))))) row
    (spells_one {g = g} p.0 (λ e w. p.1 e) left inside))
enclosed t false each after g p ks bs s =
    subst (λ (x : List ℕ). Spells after (tokens false t ++ ks) (g ++ (x ++ bs))) (sym (append-nil (named_text false t)))
    (each after g p ks bs s)

-- an application behind a gap
applied : (f a : Named) → Leads f → Leads a → (after : Bool) (g : List ℕ) → IsApart after g →
    (ks : List Token) (bs : List ℕ) → IsSpelled ks bs →
    Spells after (tokens false (app f a) ++ ks) (g ++ (named_text false (app f a) ++ bs))
applied f a first second after g p ks bs s =
    let F = bracketed (is_abstraction f) (named_text false f) in
    let A = bracketed (not (is_name a)) (named_text false a) in
    let K = in_brackets (is_abstraction f) (tokens false f) in
    let L = in_brackets (not (is_name a)) (tokens false a) in
    let rest : IsSpelled (L ++ ks) (32 ∷ (A ++ bs)) =
    λ b. enclosed a (not (is_name a)) second b (32 ∷ []) (by_space b) ks bs s in
    subst (λ (x : List ℕ). Spells after ((K ++ L) ++ ks) (g ++ x)) (sym (append_assoc F (32 ∷ A) bs))
    (subst (λ (x : List Token). Spells after x (g ++ (F ++ (32 ∷ (A ++ bs))))) (sym (append_assoc K L ks))
    (enclosed f (is_abstraction f) first after g p (L ++ ks) (32 ∷ (A ++ bs)) rest))

-- a body that is no abstraction
pointed : (t : Named) (ks : List Token) (bs : List ℕ) → Spells false ks (32 ∷ bs) → IsSpelled (dot ∷ ks) (46 ∷ (32 ∷ bs))
pointed t ks bs s = λ after. spells_one {g = []} gap_none (λ x y. absurd (cc)) point s

pub record IsWritten (t : Named) : Type 0 where
  pub leads : Leads t
  pub follows : Follows t

written : (t : Named) → AllNames t → IsWritten t
written (var x) h = record {
  leads = λ after g p ks bs s. one g p h s;
  follows = λ ks bs s. pointed (var x) (name x ∷ ks) (x ++ bs) (one (32 ∷ []) (by_space false) h s);
}
written (lam x t) h =
    let r = written t h.1 in
    let more : (ks : List Token) (bs : List ℕ) → IsSpelled ks bs →
    IsSpelled (tokens true t ++ ks) (named_text true t ++ bs) = r.follows in
    record {
      leads = λ after g p ks bs s. subst (λ (y : List ℕ). Spells after (lambda ∷ name x ∷ (tokens true t ++ ks)) (g ++ (92 ∷ y)))
          (sym (append_assoc x (named_text true t) bs))
          (spells_one {g = g} p.0 (λ e w. p.1 e) slash (one [] no_gap h.0 (more ks bs s)));
      follows = λ ks bs s after. subst (λ (y : List ℕ). Spells after (name x ∷ (tokens true t ++ ks)) (32 ∷ y))
          (sym (append_assoc x (named_text true t) bs))
          (one (32 ∷ []) (by_space after) h.0 (more ks bs s));
    }
written (app f a) h =
    let r = written f h.0 in
    let q = written a h.1 in
    record {
      leads = λ after g p ks bs s. applied f a r.leads q.leads after g p ks bs s;
      follows = λ ks bs s. pointed (app f a) (tokens false (app f a) ++ ks) (named_text false (app f a) ++ bs)
          (applied f a r.leads q.leads false (32 ∷ []) (by_space false) ks bs s);
    }

pub named_is_read : NamedIsRead
named_is_read t h = record {
  tokens = tokens false t;
  spelled = subst (λ (x : List ℕ). Spells false (tokens false t) x) (append-nil (named_text false t))
      (subst (λ (x : List Token). Spells false x (named_text false t ++ [])) (append-nil (tokens false t))
      ((written t h).leads false [] no_gap [] [] (λ after. spells_none (last_gap gap_none))));
  term = (grammatical t).term;
}
