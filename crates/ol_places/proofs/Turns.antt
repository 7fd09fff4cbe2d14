-- One turn of each loop.
use Rattle.std.proofs.Common.{◌≡◌, ℕ, ◌+◌, ◌-◌, List, [], ◌∷◌, ◌++◌, length, take, false, refl, sym, ap, ◌∙◌, arith}
use Rattle.std.specs.Borrow.{Bor}
use Rattle.std.proofs.lemmas.List.{take-map}
use Rattle.std.proofs.Math.Seq.{take-append_seam}
use Rattle.ol_places.specs.declared.scanning.Scope as code
use Rattle.std.specs.Prelude.{Some}
use Rattle.ol_parse.specs.Grammar.{name, open_bracket}
use Rattle.ol_places.specs.declared.scanning.Mode.{Mode}
use Rattle.ol_places.specs.declared.scanning.Mode.TheVariants.{Atom, Names, Let}
use Rattle.ol_places.specs.declared.scanning.Scan.{Scan}
use Rattle.ol_places.specs.Scans.{names_of, scopes_of, shown, Scope, bracket, binder, defining, bound_by, unwound, closed}
use Rattle.ol_places.specs.Scans.{innermost, is_free_at, mode_after, scopes_after, IsScan, Takes}

-- ---- names and scopes

pub scopes_push : (xs : List code.Scope) (s : code.Scope) → scopes_of (xs ++ (s ∷ [])) ≡ shown s ∷ scopes_of xs
scopes_push [] s = refl
scopes_push (x ∷ xs) s = ap (λ l. l ++ (shown x ∷ [])) (scopes_push xs s)

pub names_push : (xs : List (Bor (List ℕ))) (x : Bor (List ℕ)) → names_of (xs ++ (x ∷ [])) ≡ names_of xs ++ (x.now ∷ [])
names_push [] x = refl
names_push (y ∷ xs) x = ap (λ l. y.now ∷ l) (names_push xs x)

names_take : (xs : List (Bor (List ℕ))) (n : ℕ) → names_of (take n xs) ≡ take n (names_of xs)
names_take xs n = sym (take-map (λ (x : Bor (List ℕ)). x.now) n xs)

names_length : (xs : List (Bor (List ℕ))) → length (names_of xs) ≡ length xs
names_length [] = refl
names_length (x ∷ xs) = let h = names_length xs in omega arith

pub names_pop : (xs ys : List (Bor (List ℕ))) (n : ℕ) (names : List (List ℕ)) (x : List ℕ) →
    names_of xs ≡ names ++ (x ∷ []) → n ≡ length xs → ys ≡ take (n - 1) xs → names_of ys ≡ names
names_pop xs ys n names x e l t =
    let k = names_length xs in
    let j = ap length e in
    let m = length_more names x in
    let i : n - 1 ≡ length names = omega arith in
    ap names_of t ∙ names_take xs (n - 1) ∙ ap (take (n - 1)) e ∙ ap (λ i. take i (names ++ (x ∷ []))) i
    ∙ take-append_seam names (x ∷ [])
  where
    length_more : (names : List (List ℕ)) (x : List ℕ) → length (names ++ (x ∷ [])) ≡ length names + 1
    length_more [] x = refl
    length_more (y ∷ names) x = let h = length_more names x in omega arith

-- ---- tokens taken

module _ (before after : Scan) (scan : IsScan before) (same : names_of after.bound.items ≡ names_of before.bound.items) where
  -- the name of a `let`
  pub takes_let : (x : List ℕ) → before.mode ≡ Let → after.mode ≡ Atom →
      scopes_of after.scopes.items ≡ defining x ∷ scopes_of before.scopes.items → Takes (name x) before after false
  takes_let x m a e =
      let ss = scopes_of before.scopes.items in
      record {
        free_is = ap (λ n. is_free_at n ss (name x)) (sym m);
        mode_is = a ∙ ap (λ n. mode_after n (name x)) (sym m);
        scopes_are = e ∙ ap (λ n. scopes_after n ss (name x)) (sym m);
        scan = same ∙ scan ∙ ap bound_by (sym e);
      }

  pub takes_open : after.mode ≡ Atom → scopes_of after.scopes.items ≡ bracket ∷ scopes_of before.scopes.items →
      Takes open_bracket before after false
  takes_open a e =
      let ss = scopes_of before.scopes.items in
      record {
        free_is = no_name before.mode ss;
        mode_is = a ∙ atom_behind before.mode;
        scopes_are = e ∙ one_more before.mode ss;
        scan = same ∙ scan ∙ ap bound_by (sym e);
      }
    where
      no_name : (m : Mode) (ss : List Scope) → false ≡ is_free_at m ss open_bracket
      no_name Atom ss = refl
      no_name Names ss = refl
      no_name Let ss = refl

      atom_behind : (m : Mode) → Atom ≡ mode_after m open_bracket
      atom_behind Atom = refl
      atom_behind Names = refl
      atom_behind Let = refl

      one_more : (m : Mode) (ss : List Scope) → bracket ∷ ss ≡ scopes_after m ss open_bracket
      one_more Atom ss = refl
      one_more Names ss = refl
      one_more Let ss = refl

-- ---- scopes ended

module _ (inner whole : List Scope) (s : Scope) (scopes : List Scope) (are : scopes ≡ s ∷ inner)
    (ends : unwound scopes ≡ whole) where
  -- a binder goes
  pub goes : (x : List ℕ) → s ≡ binder x → unwound inner ≡ whole
  goes x e = sym (ap unwound (are ∙ ap (λ y. y ∷ inner) e)) ∙ ends

  pub goes_bound : (x : List ℕ) → s ≡ binder x → bound_by scopes ≡ bound_by inner ++ (x ∷ [])
  goes_bound x e = ap bound_by (are ∙ ap (λ y. y ∷ inner) e)

  -- a scope that binds nothing stays
  module _ (t : Scope) (is : s ≡ t) (stays : unwound (t ∷ inner) ≡ t ∷ inner) where
    is_whole : s ∷ inner ≡ whole
    is_whole = ap (λ y. y ∷ inner) is ∙ sym stays ∙ ap (λ y. unwound (y ∷ inner)) (sym is) ∙ ap unwound (sym are) ∙ ends

    pub stays_first : Some s ≡ innermost whole
    stays_first = ap innermost is_whole

    pub stays_rest : inner ≡ closed whole
    stays_rest = ap closed is_whole

    pub stays_bound : bound_by (t ∷ inner) ≡ bound_by inner → bound_by scopes ≡ bound_by inner
    stays_bound e = ap bound_by (are ∙ ap (λ y. y ∷ inner) is) ∙ e
