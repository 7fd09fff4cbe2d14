-- A file has one answer.
use Rattle.std.proofs.Common.{◌≡◌, ℕ, ◌+◌, Bool, true, false, List, [], ◌∷◌, ◌++◌, Option, Some, None, refl, sym, ap, ◌∙◌, subst, arith, inl, inr}
use Rattle.std.specs.Prelude.{◌&&◌, ◌⊎◌, if◌then◌else◌, codes}
use Rattle.std.specs.Fmt.{decimal}
use Rattle.ol_term.specs.Trees.{Tree, term_size, depth}
use Rattle.ol_parse.proofs.Exact.{one_file}
use Rattle.ol_parse.proofs.Sizes.{one_dead_place}
use Rattle.ol_beta.specs.AddressTexts.{address_text}
use Rattle.ol_beta.specs.Beta.{contracted}
use Rattle.ol_beta.specs.Leftmost.{IsBefore}
use Rattle.ol_subjects.specs.declared.answers.End.{End}
use Rattle.ol_subjects.specs.declared.answers.End.TheVariants.{Yes, No}
use Rattle.ol_derivations.specs.Steps.{IsFirstStep}
use Rattle.ol_derivations.specs.Lines.{lines_of}
use Rattle.ol_derivations.specs.Reductions.{AreSteps}
use Rattle.ol_term.specs.NameLists.{with_names, in_table}
use Rattle.ol_derivations.specs.Verdicts.{IsVerdict, is_fine, verdict_words}
use Rattle.ol_derivations.specs.declared.judging.Verdict.{Verdict}
use Rattle.ol_derivations.specs.declared.judging.Verdict.TheVariants.{Step, Same, Steps, Apart, NoStep}
use Rattle.ol_derivations.specs.Derivations.{Terms, with_term, IsTermLine, IsNoTermLine, long, syntax_at, deep, large, IsTold}
use Rattle.ol_derivations.specs.Derivations.{line_text, first, behind, IsLine, left_out, no_term, term, AreLines, none, more}
use Rattle.ol_derivations.specs.Derivations.{no_terms, IsDerivation, nothing, said}

clash : false ≡ true → ⊥
clash h = absurd (cc)

-- ---- verdicts

not_both : (a b : List ℕ) → IsBefore a b → IsBefore b a → ⊥
not_both [] [] h k = h
not_both [] (n ∷ b) h k = k
not_both (m ∷ a) [] h k = h
not_both (m ∷ a) (n ∷ b) (inl h) (inl k) = omega arith
not_both (m ∷ a) (n ∷ b) (inl h) (inr k) = let e = k.0 in omega arith
not_both (m ∷ a) (n ∷ b) (inr h) (inl k) = let e = h.0 in omega arith
not_both (m ∷ a) (n ∷ b) (inr h) (inr k) = not_both a b h.1 k.1

same_or : (a b : List ℕ) → (a ≡ b) ⊎ IsBefore a b → (b ≡ a) ⊎ IsBefore b a → a ≡ b
same_or a b (inl h) k = h
same_or a b (inr h) (inl k) = sym k
same_or a b (inr h) (inr k) = absurd (not_both a b h k)

one_address : (t u : Tree) (a b : List ℕ) → IsFirstStep t u a → IsFirstStep t u b → a ≡ b
one_address t u a b f g = same_or a b (f.1 b g.0) (g.1 a f.0)

same_flag : (x y : Bool) → (x ≡ true → y ≡ true) → (y ≡ true → x ≡ true) → x ≡ y
same_flag true y f g = sym (f refl)
same_flag false true f g = g refl
same_flag false false f g = refl

abbrev step_words : List ℕ → Bool → List ℕ
step_words at is_leftmost =
    codes "one beta step, at " ++ address_text at ++ (if is_leftmost then codes ", leftmost" else [])

same_number : (t u : Tree) (k j : ℕ) → AreSteps t u k → AreSteps t u j → k ≡ j
same_number t u k j f g =
    let a = f.shortest j g.reduction in
    let b = g.shortest k f.reduction in
    omega (arith, a, b)

-- several steps are told where neither one nor none leads to the term
not_one : (t u : Tree) (at : List ℕ) (k : ℕ) → contracted t at ≡ Some u → AreSteps t u k → ⊥
not_one t u at k e are =
    let l = are.shortest 1 (at, u, e, refl) in
    let several = are.several in
    omega (arith, l, several)

not_none : (t u : Tree) (k : ℕ) → t ≡ u → AreSteps t u k → ⊥
not_none t u k e are =
    let l = are.shortest 0 e in
    let several = are.several in
    omega (arith, l, several)

pub one_verdict : (t u : Tree) (v w : Verdict) → IsVerdict t u v → IsVerdict t u w →
    ((m : ℕ) → verdict_words m v ≡ verdict_words m w) × (is_fine v ≡ is_fine w)
one_verdict t u (Step a x) (Step b y) f g =
    let e = one_address t u a.items b.items f.0 g.0 in
    let same = same_flag x y (λ h. g.1.1 (f.1.0 h ∙ ap Some e)) (λ h. f.1.1 (g.1.0 h ∙ ap Some (sym e))) in
    (λ m. ap (λ at. step_words at x) e ∙ ap (step_words b.items) same, refl)
one_verdict t u (Step a x) Same f g = absurd (g.0 a.items f.0.0)
one_verdict t u (Step a x) (Steps j) f g = absurd (not_one t u a.items j f.0.0 g)
one_verdict t u (Step a x) Apart f g = absurd (g.0 a.items f.0.0)
one_verdict t u (Step a x) NoStep f g = absurd (g.0 a.items f.0.0)
one_verdict t u Same (Step b y) f g = absurd (f.0 b.items g.0.0)
one_verdict t u Same Same f g = (λ m. refl, refl)
one_verdict t u Same (Steps j) f g = absurd (not_none t u j f.1 g)
one_verdict t u Same Apart f g = absurd (g.1 f.1)
one_verdict t u Same NoStep f g = absurd (g.1 f.1)
one_verdict t u (Steps k) (Step b y) f g = absurd (not_one t u b.items k g.0.0 f)
one_verdict t u (Steps k) Same f g = absurd (not_none t u k g.1 f)
one_verdict t u (Steps k) (Steps j) f g = (λ m. ap (λ k. decimal k ++ codes " steps") (same_number t u k j f g), refl)
one_verdict t u (Steps k) Apart f g = absurd (g.2 k f)
one_verdict t u (Steps k) NoStep f g = absurd (g.2 k f)
one_verdict t u Apart (Step b y) f g = absurd (f.0 b.items g.0.0)
one_verdict t u Apart Same f g = absurd (f.1 g.1)
one_verdict t u Apart (Steps j) f g = absurd (f.2 j g)
one_verdict t u Apart Apart f g = (λ m. refl, refl)
one_verdict t u Apart NoStep f g = absurd (g.3 f.3)
one_verdict t u NoStep (Step b y) f g = absurd (f.0 b.items g.0.0)
one_verdict t u NoStep Same f g = absurd (f.1 g.1)
one_verdict t u NoStep (Steps j) f g = absurd (f.2 j g)
one_verdict t u NoStep Apart f g = absurd (f.3 g.3)
one_verdict t u NoStep NoStep f g = (λ m. refl, refl)

-- ---- lines

pub no_both : {line words : List ℕ} (t : Tree) (names : List (List ℕ)) → IsNoTermLine line words →
    IsTermLine line t names → ⊥
no_both t names (long l) is = let s = is.short in omega arith
no_both t names (syntax_at s r) is = r.0 is.file.named is.file.text
no_both {line = line} t names (deep s d) is =
    let e = ap depth (one_file line d.tree t d.names names d.file is.file).0 in
    let i = d.is in
    let a = d.above in
    let w = is.within.1 in
    omega arith
no_both {line = line} t names (large {t = u} {names = others} s f h l) is =
    let e = ap term_size (one_file line u t others names f is.file).0 in
    let w = is.within.0 in
    omega arith

pub one_why : {line words others : List ℕ} → IsNoTermLine line words → IsNoTermLine line others → words ≡ others
one_why (long l) (long k) = refl
one_why (long l) (syntax_at s r) = absurd (omega arith)
one_why (long l) (deep s d) = absurd (omega arith)
one_why (long l) (large s f h k) = absurd (omega arith)
one_why (syntax_at s r) (long l) = absurd (omega arith)
one_why {line = line} (syntax_at {at = m} s r) (syntax_at {at = n} z q) =
    ap (λ at. codes "syntax, column " ++ decimal (at + 1)) (one_dead_place line m n r.1 q.1)
one_why (syntax_at s r) (deep z d) = absurd (r.0 d.file.named d.file.text)
one_why (syntax_at s r) (large z f h k) = absurd (r.0 f.named f.text)
one_why (deep s d) (long l) = absurd (omega arith)
one_why (deep s d) (syntax_at z r) = absurd (r.0 d.file.named d.file.text)
one_why (deep s d) (deep z c) = refl
one_why {line = line} (deep s d) (large {t = u} {names = names} z f h k) =
    let e = ap depth (one_file line d.tree u d.names names d.file f).0 in
    let i = d.is in
    let a = d.above in
    absurd (omega arith)
one_why (large s f h k) (long l) = absurd (omega arith)
one_why (large s f h k) (syntax_at z r) = absurd (r.0 f.named f.text)
one_why {line = line} (large {t = u} {names = names} s f h k) (deep z d) =
    let e = ap depth (one_file line d.tree u d.names names d.file f).0 in
    let i = d.is in
    let a = d.above in
    absurd (omega arith)
one_why (large s f h k) (large z g i l) = refl

-- what is said, by the last term
abbrev Told : ℕ → Tree → Option (ℕ × Tree) → List ℕ → Bool → Type 0
Told n t None told fine = (told ≡ []) × (fine ≡ true)
Told n t (Some (m, s)) told fine =
    (v : Verdict) × IsVerdict s t v × (told ≡ line_text n (verdict_words m v)) × (fine ≡ is_fine v)

told_of : {n : ℕ} {t : Tree} {last : Option (ℕ × Tree)} {told : List ℕ} {fine : Bool} → IsTold n t last told fine →
    Told n t last told fine
told_of first = (refl, refl)
told_of (behind v is) = (v, is, refl, refl)

one_told : (n : ℕ) (t : Tree) (last : Option (ℕ × Tree)) (told others : List ℕ) (fine good : Bool) →
    Told n t last told fine → Told n t last others good → (told ≡ others) × (fine ≡ good)
one_told n t None told others fine good f g = (f.0 ∙ sym g.0, f.1 ∙ sym g.1)
one_told n t (Some (m, s)) told others fine good f g =
    let one = one_verdict s t f.0 g.0 f.1 g.1 in
    (f.2 ∙ ap (line_text n) (one.0 m) ∙ sym g.2, f.3 ∙ one.1 ∙ sym g.3)

one_line : {n : ℕ} {line : List ℕ} {terms after later : Terms} {told others : List ℕ} {fine good : Bool} →
    IsLine n line terms after told fine → IsLine n line terms later others good →
    (after ≡ later) × (told ≡ others) × (fine ≡ good)
one_line (left_out o) (left_out p) = (refl, refl, refl)
one_line (left_out o) (no_term p w) = absurd (cc)
one_line (left_out o) (term p i t) = absurd (cc)
one_line (no_term o w) (left_out p) = absurd (cc)
one_line {n = n} (no_term o w) (no_term p z) = (refl, ap (line_text n) (one_why w z), refl)
one_line (no_term o w) (term {t = t} {names = names} p i told) = absurd (no_both t names w i)
one_line (term o i told) (left_out p) = absurd (cc)
one_line (term {t = t} {names = names} o i told) (no_term p w) = absurd (no_both t names w i)
one_line {n = n} {line = line} {terms = terms} {told = first_told} {others = others} {fine = fine} {good = good}
    (term {t = t} {names = names} o i told) (term {t = u} {names = more_names} p j said_so) =
    let same = one_file line t u names more_names i.file j.file in
    let there : IsTold n (in_table (with_names terms.table names) names u) terms.last others good =
    subst (λ (x : List (List ℕ)). IsTold n (in_table (with_names terms.table x) x u) terms.last others good) (sym same.1) said_so in
    let here : IsTold n (in_table (with_names terms.table names) names t) terms.last others good =
    subst (λ (x : Tree). IsTold n (in_table (with_names terms.table names) names x) terms.last others good) (sym same.0) there in
    let one = one_told n (in_table (with_names terms.table names) names t) terms.last first_told others fine good
    (told_of told) (told_of here) in
    (ap (λ (x : Tree). with_term terms n x names) same.0 ∙ ap (with_term terms n u) same.1, one.0, one.1)

-- lines, by whether there is a first one
abbrev Said : ℕ → Terms → List (List ℕ) → List ℕ → Bool → Type 0
Said n terms [] text fine = (text ≡ []) × (fine ≡ true)
Said n terms (line ∷ lines) text fine =
    (after : Terms) × (told : List ℕ) × (rest : List ℕ) × (now : Bool) × (all : Bool) ×
    IsLine n line terms after told now × AreLines (n + 1) after lines rest all ×
    (text ≡ told ++ rest) × (fine ≡ (now && all))

said_of : {n : ℕ} {terms : Terms} {lines : List (List ℕ)} {text : List ℕ} {fine : Bool} →
    AreLines n terms lines text fine → Said n terms lines text fine
said_of none = (refl, refl)
said_of (more {after = after} {told = told} {text = text} {fine = fine} {all = all} is rest) =
    (after, told, text, fine, all, is, rest, refl, refl)

one_text : (lines : List (List ℕ)) (n : ℕ) (terms : Terms) (text others : List ℕ) (fine good : Bool) →
    AreLines n terms lines text fine → AreLines n terms lines others good → (text ≡ others) × (fine ≡ good)
one_text [] n terms text others fine good f g =
    let a = said_of f in
    let b = said_of g in
    (a.0 ∙ sym b.0, a.1 ∙ sym b.1)
one_text (line ∷ lines) n terms text others fine good f g =
    let (after, told, rest, now, all, is, are, e, d) = said_of f in
    let (later, tell, left, so, each, it, go, c, b) = said_of g in
    let (same, words, flag) = one_line is it in
    let there : AreLines (n + 1) after lines left each = subst (λ x. AreLines (n + 1) x lines left each) (sym same) go in
    let one = one_text lines (n + 1) after rest left all each are there in (
      e ∙ ap (λ x. x ++ rest) words ∙ ap (λ x. tell ++ x) one.0 ∙ sym c,
      d ∙ ap (λ x. x && all) flag ∙ ap (λ x. so && x) one.1 ∙ sym b,
    )

pub one_answer : (bytes text other : List ℕ) (e f : End) → IsDerivation bytes text e → IsDerivation bytes other f →
    (text ≡ other) × (e ≡ f)
one_answer bytes text other e f (nothing h) (nothing k) = (refl, refl)
one_answer bytes text other e f (nothing h) (said k are) = absurd (clash (sym k ∙ h))
one_answer bytes text other e f (said h are) (nothing k) = absurd (clash (sym h ∙ k))
one_answer bytes text other e f (said {fine = x} h are) (said {fine = y} k go) =
    let one = one_text (lines_of bytes) 1 no_terms text other x y are go in
    (one.0, ap (λ (z : Bool). if z then Yes else No) one.1)
