-- A folded tree with its words is the folded tree but for the numbers of names, each of which stands for the same value.
use Rattle.std.proofs.Common.{◌≡◌, ℕ, zero, suc, ◌+◌, ◌-◌, ◌<◌, ◌≤◌, ◌⊎◌, inl, inr, Bool, true, false, ◌&&◌, nat_lt}
use Rattle.std.proofs.Common.{List, [], ◌∷◌, length, Option, Some, None, refl, sym, ap, ◌∙◌, subst, arith}
use Rattle.std.specs.Prelude.{◌==◌, max, if◌then◌else◌, slice_get, slice_index_or, unwrap_or}
use Rattle.std.specs.Str.{bytes_eq}
use Rattle.std.proofs.lemmas.Bool.{and_parts, and_from, cases_lt, le-ltb, lt-ltb}
use Rattle.std.proofs.lemmas.Option.{same_Some}
use Rattle.ol_term.specs.Trees as tree
use Rattle.ol_term.specs.Trees.{Tree, is_below, is_named_below, term_size, depth}
use Rattle.ol_strategies.proofs.Finals.{no_less}
use Rattle.ol_steps.specs.Binders as binders
use Rattle.ol_steps.specs.Binders.{Binders, Fits, names_in_argument, names_in_body, names_in_function}
use Rattle.ol_steps.specs.Folded.{is_same, pruned}
use Rattle.ol_steps.specs.LetLaws.{unfolded, subterm_along}
use Rattle.ol_steps.specs.Lets.{LetRow, values_of_lets}
use Rattle.ol_steps.specs.Words.{Glossary, row_at, word_number, written_number, word_for, worded}
use Rattle.ol_steps.proofs.Same.{same_is}
use Rattle.ol_steps.proofs.Complete.{root_is}

-- ---- the number of a row

pub record LeadsToRow (n : ℕ) (rows : List LetRow) (x : List ℕ) (v : Tree) (k : ℕ) : Type 0 where
  pub row : LetRow
  pub from : n ≤ k
  pub within : k < n + length rows
  pub here : slice_get rows (k - n) ≡ Some row
  pub name : bytes_eq row.name x ≡ true
  pub value : row.value ≡ v

one_row : (n : ℕ) (r : LetRow) (rows : List LetRow) (x : List ℕ) (v : Tree) (k : ℕ) (b : Bool) →
    (bytes_eq r.name x && is_same r.value v) ≡ b → (row_at (n + 1) rows x v ≡ Some k → LeadsToRow (n + 1) rows x v k) →
    (if b then Some n else row_at (n + 1) rows x v) ≡ Some k → LeadsToRow n (r ∷ rows) x v k
one_row n r rows x v k true e each h =
    let same : n ≡ k = cc in
    let z : k - n ≡ 0 = omega (arith, same) in
    let p = and_parts (bytes_eq r.name x) (is_same r.value v) e in
    record {
      row = r;
      from = omega (arith, same);
      within = omega (arith, same);
      here = ap (λ (i : ℕ). slice_get (r ∷ rows) i) z;
      name = p.0;
      value = same_is r.value v p.1;
    }
one_row n r rows x v k false e each h =
    let l = each h in
    let from : n + 1 ≤ k = l.from in
    let within : k < n + 1 + length rows = l.within in
    let z : k - n ≡ suc (k - (n + 1)) = omega (arith, from) in
    record {
      row = l.row;
      from = omega (arith, from);
      within = omega (arith, within);
      here = ap (λ (i : ℕ). slice_get (r ∷ rows) i) z ∙ l.here;
      name = l.name;
      value = l.value;
    }

pub leads_to_row : (n : ℕ) (rows : List LetRow) (x : List ℕ) (v : Tree) (k : ℕ) → row_at n rows x v ≡ Some k →
    LeadsToRow n rows x v k
leads_to_row n [] x v k e = absurd (cc)
leads_to_row n (r ∷ rows) x v k e =
    one_row n r rows x v k (bytes_eq r.name x && is_same r.value v) refl (leads_to_row (n + 1) rows x v k) e

pub read_value : (rows : List LetRow) (i : ℕ) (r : LetRow) (d : Tree) → slice_get rows i ≡ Some r →
    slice_index_or (values_of_lets rows) i d ≡ r.value
read_value [] i r d e = absurd (cc)
read_value (q ∷ rows) zero r d e = ap (λ (z : LetRow). z.value) (same_Some q r e)
read_value (q ∷ rows) (suc i) r d e = read_value rows i r d e

-- ---- the number of a word

-- two numbers of rows that have one value
pub record AreEven (g : Glossary) (k m : ℕ) : Type 0 where
  pub row : LetRow
  pub other : LetRow
  pub from : g.first ≤ k
  pub here : slice_get g.rows (k - g.first) ≡ Some row
  pub other_from : g.first ≤ m
  pub other_within : m < g.first + length g.rows
  pub there : slice_get g.rows (m - g.first) ≡ Some other
  pub value : other.value ≡ row.value

module _ (g : Glossary) (k : ℕ) (s : Binders) where
  abbrev Number : ℕ → Type 0
  Number m = (m ≡ k) ⊎ AreEven g k m

  of_row : (row : LetRow) → g.first ≤ k → slice_get g.rows (k - g.first) ≡ Some row → (o : Option ℕ) →
      row_at g.first g.rows (word_for g.lets row.value s) row.value ≡ o → Number (unwrap_or o k)
  of_row row f e None i = inl refl
  of_row row f e (Some m) i =
      let l = leads_to_row g.first g.rows (word_for g.lets row.value s) row.value m i in
      inr (record {
        row = row;
        other = l.row;
        from = f;
        here = e;
        other_from = l.from;
        other_within = l.within;
        there = l.here;
        value = l.value;
      })

  of_place : g.first ≤ k → (o : Option LetRow) → slice_get g.rows (k - g.first) ≡ o → Number (word_number g k o s)
  of_place f None e = inl refl
  of_place f (Some row) e =
      of_row row f e (row_at g.first g.rows (word_for g.lets row.value s) row.value) refl

  pub numbered_so : Number (written_number g k s)
  numbered_so = go (cases_lt k g.first)
    where
      w : ℕ
      w = word_number g k (slice_get g.rows (k - g.first)) s

      go : (k < g.first) ⊎ (g.first ≤ k) → Number (if nat_lt k g.first then k else w)
      go (inl l) = inl (ap (λ (b : Bool). if b then k else w) (lt-ltb k g.first l))
      go (inr l) = subst (λ (b : Bool). Number (if b then k else w)) (sym (le-ltb k g.first l))
          (of_place l (slice_get g.rows (k - g.first)) refl)

-- ---- with its words a tree is as it was

module _ (g : Glossary) where
  abbrev vs : List Tree
  vs = values_of_lets g.rows

  stands_for : (k : ℕ) (row : LetRow) → g.first ≤ k → slice_get g.rows (k - g.first) ≡ Some row →
      unfolded g.first vs (tree.free k) ≡ row.value
  stands_for k row f e =
      ap (λ (b : Bool). if b then tree.free k else slice_index_or vs (k - g.first) (tree.free k)) (le-ltb k g.first f)
      ∙ read_value g.rows (k - g.first) row (tree.free k) e

  pub unfolded_worded : (x : Tree) (s : Binders) → unfolded g.first vs (worded g x s) ≡ unfolded g.first vs x
  unfolded_worded (tree.var k) s = refl
  unfolded_worded (tree.free k) s = go (written_number g k s) (numbered_so g k s)
    where
      go : (m : ℕ) → (m ≡ k) ⊎ AreEven g k m → unfolded g.first vs (tree.free m) ≡ unfolded g.first vs (tree.free k)
      go m (inl e) = ap (λ (i : ℕ). unfolded g.first vs (tree.free i)) e
      go m (inr r) = stands_for m r.other r.other_from r.there ∙ r.value ∙ sym (stands_for k r.row r.from r.here)
  unfolded_worded (tree.lam t) s = ap tree.lam (unfolded_worded t (names_in_body s))
  unfolded_worded (tree.app f a) s =
      ap (λ (u : Tree). tree.app u (unfolded g.first vs (worded g a (names_in_argument s))))
      (unfolded_worded f (names_in_function s))
      ∙ ap (λ (u : Tree). tree.app (unfolded g.first vs f) u) (unfolded_worded a (names_in_argument s))

  pub worded_below : (d : ℕ) (x : Tree) (s : Binders) → is_below d x ≡ true → is_below d (worded g x s) ≡ true
  worded_below d (tree.var k) s h = h
  worded_below d (tree.free k) s h = refl
  worded_below d (tree.lam t) s h = worded_below (d + 1) t (names_in_body s) h
  worded_below d (tree.app f a) s h =
      let p = and_parts (is_below d f) (is_below d a) h in
      and_from (is_below d (worded g f (names_in_function s))) (is_below d (worded g a (names_in_argument s)))
      (worded_below d f (names_in_function s) p.0) (worded_below d a (names_in_argument s) p.1)

  pub worded_named : (x : Tree) (s : Binders) → is_named_below (g.first + length g.rows) x ≡ true →
      is_named_below (g.first + length g.rows) (worded g x s) ≡ true
  worded_named (tree.var k) s h = refl
  worded_named (tree.free k) s h = go (written_number g k s) (numbered_so g k s)
    where
      go : (m : ℕ) → (m ≡ k) ⊎ AreEven g k m → nat_lt m (g.first + length g.rows) ≡ true
      go m (inl e) = ap (λ (i : ℕ). nat_lt i (g.first + length g.rows)) e ∙ h
      go m (inr r) = lt-ltb m (g.first + length g.rows) r.other_within
  worded_named (tree.lam t) s h = worded_named t (names_in_body s) h
  worded_named (tree.app f a) s h =
      let n = g.first + length g.rows in
      let p = and_parts (is_named_below n f) (is_named_below n a) h in
      and_from (is_named_below n (worded g f (names_in_function s))) (is_named_below n (worded g a (names_in_argument s)))
      (worded_named f (names_in_function s) p.0) (worded_named a (names_in_argument s) p.1)

  pub worded_size : (x : Tree) (s : Binders) → term_size (worded g x s) ≡ term_size x
  worded_size (tree.var k) s = refl
  worded_size (tree.free k) s = refl
  worded_size (tree.lam t) s = ap (λ (n : ℕ). 1 + n) (worded_size t (names_in_body s))
  worded_size (tree.app f a) s =
      ap (λ (n : ℕ). 1 + n + term_size (worded g a (names_in_argument s))) (worded_size f (names_in_function s))
      ∙ ap (λ (n : ℕ). 1 + term_size f + n) (worded_size a (names_in_argument s))

  pub worded_depth : (x : Tree) (s : Binders) → depth (worded g x s) ≡ depth x
  worded_depth (tree.var k) s = refl
  worded_depth (tree.free k) s = refl
  worded_depth (tree.lam t) s = ap (λ (n : ℕ). 1 + n) (worded_depth t (names_in_body s))
  worded_depth (tree.app f a) s =
      ap (λ (n : ℕ). 1 + max n (depth (worded g a (names_in_argument s)))) (worded_depth f (names_in_function s))
      ∙ ap (λ (n : ℕ). 1 + max (depth f) n) (worded_depth a (names_in_argument s))

  -- where there are no rows, nothing is written anew
  pub none_worded : g.rows ≡ [] → (x : Tree) (s : Binders) → worded g x s ≡ x
  none_worded none (tree.var k) s = refl
  none_worded none (tree.free k) s = go (written_number g k s) (numbered_so g k s)
    where
      no_row : (rows : List LetRow) (row : LetRow) → rows ≡ [] → slice_get rows (k - g.first) ≡ Some row → ⊥
      no_row [] row e h = absurd (cc)
      no_row (q ∷ rows) row e h = absurd (cc)

      go : (m : ℕ) → (m ≡ k) ⊎ AreEven g k m → tree.free m ≡ tree.free k
      go m (inl e) = ap tree.free e
      go m (inr r) = absurd (no_row g.rows r.row none r.here)
  none_worded none (tree.lam t) s = ap tree.lam (none_worded none t (names_in_body s))
  none_worded none (tree.app f a) s =
      ap (λ (u : Tree). tree.app u (worded g a (names_in_argument s))) (none_worded none f (names_in_function s))
      ∙ ap (λ (u : Tree). tree.app f u) (none_worded none a (names_in_argument s))

  -- ---- its binders

  pub pruned_worded : (x : Tree) (r s : Binders) → pruned (worded g x r) s ≡ pruned x s
  pruned_worded (tree.var k) r s = refl
  pruned_worded (tree.free k) r s = refl
  pruned_worded (tree.lam t) r binders.leaf = refl
  pruned_worded (tree.lam t) r (binders.lam x s) =
      ap (λ (q : Binders). binders.lam x q) (pruned_worded t (names_in_body r) s)
  pruned_worded (tree.lam t) r (binders.app p q) = refl
  pruned_worded (tree.app f a) r binders.leaf = refl
  pruned_worded (tree.app f a) r (binders.lam x s) = refl
  pruned_worded (tree.app f a) r (binders.app p q) =
      ap (λ (z : Binders). binders.app z (pruned (worded g a (names_in_argument r)) q))
      (pruned_worded f (names_in_function r) p)
      ∙ ap (λ (z : Binders). binders.app (pruned f p) z) (pruned_worded a (names_in_argument r) q)

  fits_worded : (x : Tree) (r q : Binders) → Fits x q → Fits (worded g x r) q
  fits_worded (tree.var k) r q h = h
  fits_worded (tree.free k) r binders.leaf h = tt
  fits_worded (tree.free k) r (binders.lam x s) h = absurd h
  fits_worded (tree.free k) r (binders.app p s) h = absurd h
  fits_worded (tree.lam t) r binders.leaf h = absurd h
  fits_worded (tree.lam t) r (binders.lam x s) h = fits_worded t (names_in_body r) s h
  fits_worded (tree.lam t) r (binders.app p s) h = absurd h
  fits_worded (tree.app f a) r binders.leaf h = absurd h
  fits_worded (tree.app f a) r (binders.lam x s) h = absurd h
  fits_worded (tree.app f a) r (binders.app p s) h =
      (fits_worded f (names_in_function r) p h.0, fits_worded a (names_in_argument r) s h.1)

  pub worded_fits : (x : Tree) (r s : Binders) → Fits x (pruned x s) → Fits (worded g x r) (pruned (worded g x r) s)
  worded_fits x r s h =
      subst (λ (q : Binders). Fits (worded g x r) q) (sym (pruned_worded x r s)) (fits_worded x r (pruned x s) h)

  -- ---- its subterms

  root_some : (u : Tree) → subterm_along u [] ≡ Some u
  root_some (tree.var k) = refl
  root_some (tree.free k) = refl
  root_some (tree.lam t) = refl
  root_some (tree.app f a) = refl

  -- a subterm is that of the folded tree with its words
  pub worded_part : (x p : Tree) (s : Binders) (at : List ℕ) → subterm_along x at ≡ Some p →
      (r : Binders) × (subterm_along (worded g x s) at ≡ Some (worded g p r))
  worded_part x p s [] e =
      (s, root_some (worded g x s) ∙ ap (λ (z : Tree). Some (worded g z s)) (root_is x p e))
  worded_part (tree.var k) p s (m ∷ at) e = absurd (cc)
  worded_part (tree.free k) p s (m ∷ at) e = absurd (cc)
  worded_part (tree.lam t) p s (m ∷ at) e = go (m == 0) (worded_part t p (names_in_body s) at) e
    where
      go : (b : Bool) → (subterm_along t at ≡ Some p →
          (r : Binders) × (subterm_along (worded g t (names_in_body s)) at ≡ Some (worded g p r))) →
          (if b then subterm_along t at else None) ≡ Some p →
          (r : Binders) × ((if b then subterm_along (worded g t (names_in_body s)) at else None) ≡ Some (worded g p r))
      go true more i = more i
      go false more i = absurd (cc)
  worded_part (tree.app f a) p s (m ∷ at) e =
      go (m == 1) (m == 2) (worded_part f p (names_in_function s) at) (worded_part a p (names_in_argument s) at) e
    where
      go : (b c : Bool) → (subterm_along f at ≡ Some p →
          (r : Binders) × (subterm_along (worded g f (names_in_function s)) at ≡ Some (worded g p r))) →
          (subterm_along a at ≡ Some p →
          (r : Binders) × (subterm_along (worded g a (names_in_argument s)) at ≡ Some (worded g p r))) →
          (if b then subterm_along f at else if c then subterm_along a at else None) ≡ Some p →
          (r : Binders) × ((if b then subterm_along (worded g f (names_in_function s)) at
          else if c then subterm_along (worded g a (names_in_argument s)) at else None) ≡ Some (worded g p r))
      go true c first second i = first i
      go false true first second i = second i
      go false false first second i = absurd (cc)

  -- without names it is what it was
  closed_same : (x : Tree) (s : Binders) → is_named_below 0 (worded g x s) ≡ true → worded g x s ≡ x
  closed_same (tree.var k) s h = refl
  closed_same (tree.free k) s h = absurd (no_less (written_number g k s) h)
  closed_same (tree.lam t) s h = ap tree.lam (closed_same t (names_in_body s) h)
  closed_same (tree.app f a) s h =
      let p = and_parts (is_named_below 0 (worded g f (names_in_function s)))
      (is_named_below 0 (worded g a (names_in_argument s))) h in
      ap (λ (u : Tree). tree.app u (worded g a (names_in_argument s))) (closed_same f (names_in_function s) p.0)
      ∙ ap (λ (u : Tree). tree.app f u) (closed_same a (names_in_argument s) p.1)

  pub closed_part : (x v : Tree) (s : Binders) (at : List ℕ) → is_named_below 0 v ≡ true →
      subterm_along (worded g x s) at ≡ Some v → subterm_along x at ≡ Some v
  closed_part x v s [] c e =
      let is = root_is (worded g x s) v e in
      root_some x ∙ ap (λ (z : Tree). Some z)
      (sym (closed_same x s (ap (λ (z : Tree). is_named_below 0 z) is ∙ c)) ∙ is)
  closed_part (tree.var k) v s (m ∷ at) c e = absurd (cc)
  closed_part (tree.free k) v s (m ∷ at) c e = absurd (cc)
  closed_part (tree.lam t) v s (m ∷ at) c e = go (m == 0) (closed_part t v (names_in_body s) at c) e
    where
      go : (b : Bool) → (subterm_along (worded g t (names_in_body s)) at ≡ Some v → subterm_along t at ≡ Some v) →
          (if b then subterm_along (worded g t (names_in_body s)) at else None) ≡ Some v →
          (if b then subterm_along t at else None) ≡ Some v
      go true more i = more i
      go false more i = absurd (cc)
  closed_part (tree.app f a) v s (m ∷ at) c e =
      go (m == 1) (m == 2) (closed_part f v (names_in_function s) at c) (closed_part a v (names_in_argument s) at c) e
    where
      go : (b d : Bool) → (subterm_along (worded g f (names_in_function s)) at ≡ Some v → subterm_along f at ≡ Some v) →
          (subterm_along (worded g a (names_in_argument s)) at ≡ Some v → subterm_along a at ≡ Some v) →
          (if b then subterm_along (worded g f (names_in_function s)) at
          else if d then subterm_along (worded g a (names_in_argument s)) at else None) ≡ Some v →
          (if b then subterm_along f at else if d then subterm_along a at else None) ≡ Some v
      go true d first second i = first i
      go false true first second i = second i
      go false false first second i = absurd (cc)
