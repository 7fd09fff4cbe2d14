-- The lines of the values that are found.
use Rattle.std.proofs.Common.{◌≡◌, ℕ, ◌||◌, Bool, true, false, List, [], ◌∷◌, ◌++◌, length, codes, Option, Some, None, inl}
use Rattle.std.proofs.Common.{refl, sym, ap, ◌∙◌}
use Rattle.std.specs.Prelude.{is_some}
use Rattle.std.specs.Option.{option_map}
use Rattle.std.specs.List.{flat_map}
use Rattle.std.proofs.lemmas.Grind.{flat_map-append}
use Rattle.std.proofs.lemmas.List.{append-nil, append_assoc}
use Rattle.ol_law_edges.specs.Edges.{IsIn}
use Rattle.ol_term.specs.Trees.{Tree}
use Rattle.ol_decoding.specs.Values.{Value}
use Rattle.ol_decoding.specs.Values as value
use Rattle.ol_decoding.specs.Told.{words_of, line, lines, SomeFits}
use Rattle.ol_decoding.specs.Decoders.{of, values, boolean_of, church_of, list_of, pair_of, scott_of, some_found}
use Rattle.ol_decoding.specs.Decoders.{truth_line, count_line, pair_line}
use Rattle.ol_decoding.proofs.Fitting.{all_of}

-- whether there is one
abbrev any : List Value → Bool
any [] = false
any (v ∷ vs) = true

any_of : {A : Type 0} (f : A → Value) (o : Option A) (vs : List Value) → any (of f o ++ vs) ≡ (is_some o || any vs)
any_of f None vs = refl
any_of f (Some x) vs = refl

any_last : (o : Option ℕ) → any (of value.scott o) ≡ is_some o
any_last None = refl
any_last (Some n) = refl

any_found : (t : Tree) → any (values t) ≡ some_found t
any_found t =
    any_of value.boolean (boolean_of t) _
    ∙ ap (λ x. is_some (boolean_of t) || x) (any_of value.church (church_of t) _
    ∙ ap (λ x. is_some (church_of t) || x) (any_of value.list (list_of t) _
    ∙ ap (λ x. is_some (list_of t) || x) (any_of (λ p. value.pair p.0 p.1) (pair_of t) _
    ∙ ap (λ x. is_some (pair_of t) || x) (any_last (scott_of t)))))

module _ (number : List ℕ) where
  abbrev said : List Value → List ℕ
  said vs = flat_map (λ v. line number (words_of v)) vs

  lines_none : (vs : List Value) → any vs ≡ false → lines number vs ≡ line number (codes "no encoding fits")
  lines_none [] e = refl
  lines_none (v ∷ vs) e = absurd (cc)

  lines_said : (vs : List Value) → any vs ≡ true → lines number vs ≡ said vs
  lines_said [] e = absurd (cc)
  lines_said (v ∷ vs) e = refl

  truth_said : (o : Option Bool) → said (of value.boolean o) ≡ truth_line number o
  truth_said None = refl
  truth_said (Some b) = append-nil _

  church_said : (o : Option ℕ) → said (of value.church o) ≡ count_line number (codes "Church numeral ") o
  church_said None = refl
  church_said (Some n) = append-nil _

  list_said : (o : Option (List Tree)) →
      said (of value.list o) ≡ count_line number (codes "list of ") (option_map (λ ts. length ts) o)
  list_said None = refl
  list_said (Some ts) = append-nil _

  pair_said : (o : Option (Tree × Tree)) → said (of (λ p. value.pair p.0 p.1) o) ≡ pair_line number (is_some o)
  pair_said None = refl
  pair_said (Some p) = append-nil _

  scott_said : (o : Option ℕ) → said (of value.scott o) ≡ count_line number (codes "Scott numeral ") o
  scott_said None = refl
  scott_said (Some n) = append-nil _

  in_front : {A : Type 0} (f : A → Value) (o : Option A) (vs : List Value) (x y : List ℕ) →
      said (of f o) ≡ x → said vs ≡ y → said (of f o ++ vs) ≡ x ++ y
  in_front f o vs x y h k = flat_map-append (λ v. line number (words_of v)) (of f o) vs
      ∙ ap (λ x. x ++ said vs) h ∙ ap (λ y. x ++ y) k

  all_said : (t : Tree) → said (values t) ≡ truth_line number (boolean_of t)
      ++ (count_line number (codes "Church numeral ") (church_of t)
      ++ (count_line number (codes "list of ") (option_map (λ ts. length ts) (list_of t))
      ++ (pair_line number (is_some (pair_of t)) ++ count_line number (codes "Scott numeral ") (scott_of t))))
  all_said t =
      in_front value.boolean (boolean_of t) _ _ _ (truth_said (boolean_of t))
      (in_front value.church (church_of t) _ _ _ (church_said (church_of t))
      (in_front value.list (list_of t) _ _ _ (list_said (list_of t))
      (in_front (λ p. value.pair p.0 p.1) (pair_of t) _ _ _ (pair_said (pair_of t)) (scott_said (scott_of t)))))

-- where something fits
pub lines_if : (number : List ℕ) (t : Tree) → some_found t ≡ true → lines number (values t) ≡
    truth_line number (boolean_of t) ++ (count_line number (codes "Church numeral ") (church_of t)
    ++ (count_line number (codes "list of ") (option_map (λ ts. length ts) (list_of t))
    ++ (pair_line number (is_some (pair_of t)) ++ count_line number (codes "Scott numeral ") (scott_of t))))
lines_if number t e = lines_said number (values t) (any_found t ∙ e) ∙ all_said number t

-- and where nothing does
pub lines_else : (number : List ℕ) (t : Tree) → some_found t ≡ false →
    lines number (values t) ≡ line number (codes "no encoding fits")
lines_else number t e = lines_none number (values t) (any_found t ∙ e)

-- ---- some value fits

some_in : (vs : List Value) → any vs ≡ true → (v : Value) × IsIn v vs
some_in [] e = absurd (cc)
some_in (v ∷ vs) e = (v, inl refl)

any_in : (v : Value) (vs : List Value) → IsIn v vs → any vs ≡ true
any_in v [] h = absurd h
any_in v (w ∷ vs) h = refl

pub found_fits : (t : Tree) → some_found t ≡ true → SomeFits t
found_fits t e = let x = some_in (values t) (any_found t ∙ e) in (x.0, ((all_of t).fitting x.0).0 x.1)

pub fits_found : (t : Tree) → SomeFits t → some_found t ≡ true
fits_found t h = sym (any_found t) ∙ any_in h.0 (values t) (((all_of t).fitting h.0).1 h.1)

-- ---- the lines, one after another

pub glue : (x y z a b : List ℕ) → y ≡ x ++ a → z ≡ y ++ b → z ≡ x ++ (a ++ b)
glue x y z a b e h = h ∙ ap (λ y. y ++ b) e ∙ append_assoc x a b

abbrev said_by : List ℕ → Option Bool → Option ℕ → Option ℕ → Bool → Option ℕ → List ℕ
said_by number b n l p s = truth_line number b
    ++ (count_line number (codes "Church numeral ") n
    ++ (count_line number (codes "list of ") l
    ++ (pair_line number p ++ count_line number (codes "Scott numeral ") s)))

pub lines_put : (number : List ℕ) (t : Tree) (b : Option Bool) (n l : Option ℕ) (p : Bool) (s : Option ℕ) →
    b ≡ boolean_of t → n ≡ church_of t → l ≡ option_map (λ ts. length ts) (list_of t) → p ≡ is_some (pair_of t) →
    s ≡ scott_of t → some_found t ≡ true → (x0 x1 x2 x3 x4 x5 : List ℕ) → x1 ≡ x0 ++ truth_line number b →
    x2 ≡ x1 ++ count_line number (codes "Church numeral ") n → x3 ≡ x2 ++ count_line number (codes "list of ") l →
    x4 ≡ x3 ++ pair_line number p → x5 ≡ x4 ++ count_line number (codes "Scott numeral ") s →
    x5 ≡ x0 ++ lines number (values t)
lines_put number t b n l p s eb en el ep es h x0 x1 x2 x3 x4 x5 h1 h2 h3 h4 h5 =
    let B = truth_line number b in
    let N = count_line number (codes "Church numeral ") n in
    let L = count_line number (codes "list of ") l in
    let P = pair_line number p in
    let S = count_line number (codes "Scott numeral ") s in
    let y : x5 ≡ x0 ++ said_by number b n l p s = glue x0 x1 x5 B (N ++ (L ++ (P ++ S))) h1
    (glue x1 x2 x5 N (L ++ (P ++ S)) h2 (glue x2 x3 x5 L (P ++ S) h3 (glue x3 x4 x5 P S h4 h5))) in
    let z : said_by number b n l p s ≡ lines number (values t) =
    ap (λ b. said_by number b n l p s) eb
    ∙ ap (λ n. said_by number (boolean_of t) n l p s) en
    ∙ ap (λ l. said_by number (boolean_of t) (church_of t) l p s) el
    ∙ ap (λ p. said_by number (boolean_of t) (church_of t) (option_map (λ ts. length ts) (list_of t)) p s) ep
    ∙ ap (λ s. said_by number (boolean_of t) (church_of t) (option_map (λ ts. length ts) (list_of t))
    (is_some (pair_of t)) s) es
    ∙ sym (lines_if number t h) in
    y ∙ ap (λ x. x0 ++ x) z
