-- The net of a term is unblocked.
-- Used for `term_is_unblocked`, and in TermRuns.
use Rattle.std.proofs.Common.{◌≡◌, ℕ, zero, suc, ◌+◌, ◌<◌, List, [], ◌∷◌, true, false, nat_eq}
use Rattle.std.proofs.Common.{if◌then◌else◌, Option, None, Some, ◌⊎◌, inl, inr, refl, sym, ap, ◌∙◌, subst, arith}
use Rattle.std.proofs.lemmas.Bool.Decides.{nat_tests}
use Rattle.std.specs.Prelude.{slice_get}
use Rattle.ol_law_edges.proofs.Lists.{in_map_of}
use Rattle.ol_law_edges.specs.Edges.{IsIn}
use Rattle.ol_law_levels.proofs.Parts.{links_join}
use Rattle.ol_law_levels.proofs.Terms.{term_is_levelled, number_in, in_number, link_in}
use Rattle.ol_net.specs.Nets.{NamedPort, free, NamedNet, HasNode, Linked}
use Rattle.ol_net.specs.Numbered.{numbered_port}
use Rattle.ol_net.specs.declared.parts.Kind.{Kind}
use Rattle.ol_net.specs.declared.parts.Kind.TheVariants as kind
use Rattle.ol_net.specs.declared.parts.Port.{Port}
use Rattle.ol_net.specs.declared.parts.Port.TheVariants.{Free}
use Rattle.ol_law_meaning.proofs.Fans.{Links}
use Rattle.ol_term.specs.Trees.{Tree}
use Rattle.ol_term.specs.declared.translations.Translation.{Translation}
use Rattle.ol_translate.proofs.Whole.{translation_net}
use Rattle.ol_translate.specs.Names.{HasNames}
use Rattle.ol_translate.specs.Translation.{subnet_of, name_links, nodes_of, links_of, translation_of}
use Rattle.ol_law_levels.proofs.Boxed.{Owner, Marked, marked, unmarked, unmarked_nodes, Has, H, L, Wired, FitsPart}
use Rattle.ol_law_levels.proofs.Boxed.{fits_term}
use Rattle.ol_law_levels.proofs.Moves.{unblocked}
use Rattle.ol_law_levels.proofs.Places.{Fits, whole, names, IsBoxed}
use Rattle.ol_law_levels.specs.UnblockedLaws.{TermIsUnblocked}

-- ---- lists and numbers

has_of : (G : ℕ → Kind → ℕ → Owner → Type 0) (k : ℕ) (xs : List Marked) →
    ((y : ℕ) (K : Kind) (i : ℕ) (E : Owner) → slice_get xs y ≡ Some (K, i, E) → G (k + y) K i E) → Has G k xs
has_of G k [] h = tt
has_of G k (x ∷ xs) h =
    let e : k + 0 ≡ k = omega arith in (
      subst (λ k. G k x.0 x.1 x.2) e (h 0 x.0 x.1 x.2 refl),
      has_of G (k + 1) xs (λ y K i E q. let e : k + suc y ≡ k + 1 + y = omega arith in
          subst (λ n. G n K i E) e (h (suc y) K i E q)),
    )

-- a node with its mark, and without
mark_there : (xs : List Marked) (x : ℕ) (K : Kind) (i : ℕ) → slice_get (unmarked xs) x ≡ Some (K, i) →
    (E : Owner) × (slice_get xs x ≡ Some (K, i, E))
mark_there [] x K i e = absurd (let bad : None ≡ Some (K, i) = e in cc)
mark_there (m ∷ xs) zero K i e =
    let s : ◌≡◌ {A = Option (Kind × ℕ)} (Some (m.0, m.1)) (Some (K, i)) = e in
    let same : ◌≡◌ {A = Kind × ℕ} (m.0, m.1) (K, i) = cc in
    (m.2, ap (λ (t : Kind × ℕ). Some (t.0, t.1, m.2)) same)
mark_there (m ∷ xs) (suc x) K i e = mark_there xs x K i e

mark_gone : (xs : List Marked) (x : ℕ) (K : Kind) (i : ℕ) (E : Owner) → slice_get xs x ≡ Some (K, i, E) →
    slice_get (unmarked xs) x ≡ Some (K, i)
mark_gone [] x K i E e = absurd (let bad : None ≡ Some (K, i, E) = e in cc)
mark_gone (m ∷ xs) zero K i E e =
    let s : ◌≡◌ {A = Option Marked} (Some m) (Some (K, i, E)) = e in
    let same : m ≡ (K, i, E) = cc in
    ap (λ (t : Marked). Some (t.0, t.1)) same
mark_gone (m ∷ xs) (suc x) K i E e = mark_gone xs x K i E e

-- ---- the boxes round a node

-- an application's own box is that of its argument
box_at : Option Marked → ℕ → ℕ → ℕ
box_at None x m = 0
box_at (Some (kind.App, i, E)) x m = if nat_eq m i then x else E m
box_at (Some (k, i, E)) x m = E m

box_own : (i : ℕ) (E : Owner) (x : ℕ) → box_at (Some (kind.App, i, E)) x i ≡ x
unfolding box_at
box_own i E x = let here : nat_eq i i ≡ true = grind (arith, nat_tests) in rw here refl

box_of_node : (K : Kind) (i : ℕ) (E : Owner) (x m : ℕ) → (K ≡ kind.App → m < i) → box_at (Some (K, i, E)) x m ≡ E m
unfolding box_at
box_of_node kind.App i E x m h =
    let b = h refl in
    let off : nat_eq m i ≡ false = grind (arith, nat_tests, b) in
    rw off refl
box_of_node kind.Lam i E x m h = refl
box_of_node kind.Fan i E x m h = refl
box_of_node kind.Croissant i E x m h = refl
box_of_node kind.Bracket i E x m h = refl
box_of_node kind.Eraser i E x m h = refl

module _ (w : Translation) (t : Tree) (count : ℕ) (has_names : HasNames t count) where
  abbrev N : NamedNet ℕ
  N = translation_of w t count

  abbrev none : Owner
  none m = 0

  abbrev marks : List Marked
  marks = marked w t 0 0 0 none

  boxes : ℕ → ℕ → ℕ
  boxes x m = box_at (slice_get marks x) x m

  same_nodes : unmarked marks ≡ nodes_of w t
  same_nodes = unmarked_nodes w t 0 0 0 none

  own_box : (x n : ℕ) → HasNode N x kind.App n → boxes x n ≡ x
  unfolding boxes
  own_box x n h =
      let r = number_in 0 (nodes_of w t) x kind.App n h in
      let e : r.0 ≡ x = omega arith in
      let at : slice_get (unmarked marks) x ≡ Some (kind.App, n) =
      ap (λ l. slice_get l x) same_nodes ∙ subst (λ y. slice_get (nodes_of w t) y ≡ Some (kind.App, n)) e r.2 in
      let m = mark_there marks x kind.App n at in
      ap (λ o. box_at o x n) m.1 ∙ box_own n m.0 x

  all_have : Has (H N boxes) 0 marks
  unfolding boxes
  all_have = has_of (H N boxes) 0 marks (λ y K i E e.
      let z : y ≡ 0 + y = omega arith in
      subst (λ x. H N boxes x K i E) z (record {
        node = in_number 0 (nodes_of w t) y y K i (omega arith)
            (ap (λ l. slice_get l y) (sym same_nodes) ∙ mark_gone marks y K i E e);
        own = λ m h. ap (λ o. box_at o y m) e ∙ box_of_node K i E y m h;
      }))

  part : FitsPart N boxes 0 none (subnet_of w t 0 0 0)
  part = fits_term N boxes own_box w t 0 0 0 none all_have

  name_fits : (ws : List (ℕ × Port)) → Wired N boxes 0 none ws → Links (L N boxes) (name_links ws)
  name_fits [] h = tt
  name_fits (u ∷ ws) h = (
    inr (let e : suc u.0 ≡ u.0 + 1 = omega arith in
        subst (λ n. Fits N boxes (numbered_port u.1) (free n)) e (names h.0.0 u.0 h.0.1)),
    name_fits ws h.1,
  )

  all_fit : Links (L N boxes) (links_of w t)
  all_fit = links_join (L N boxes) (subnet_of w t 0 0 0).links
      ((Free 0, (subnet_of w t 0 0 0).root) ∷ name_links (subnet_of w t 0 0 0).wires) part.links
      (inl (whole part.root.0 part.root.1), name_fits (subnet_of w t 0 0 0).wires part.wires)

  FitOne : NamedPort ℕ → NamedPort ℕ → Type 0
  FitOne p q = Fits N boxes p q ⊎ Fits N boxes q p

  in_links : (p q : NamedPort ℕ) → IsIn (p, q) N.links → FitOne p q
  unfolding FitOne
  in_links p q h =
      let r = in_map_of (λ (l : Port × Port). (numbered_port l.0, numbered_port l.1)) (p, q) (links_of w t) h in
      let e : p ≡ numbered_port r.0.0 = ap (λ (l : NamedPort ℕ × NamedPort ℕ). l.0) r.2 in
      let e' : q ≡ numbered_port r.0.1 = ap (λ (l : NamedPort ℕ × NamedPort ℕ). l.1) r.2 in
      subst (λ p. Fits N boxes p q ⊎ Fits N boxes q p) (sym e)
      (subst (λ q. Fits N boxes (numbered_port r.0.0) q ⊎ Fits N boxes q (numbered_port r.0.0)) (sym e')
      (link_in (L N boxes) (links_of w t) all_fit r.0 r.1))

  flip : {P Q : Type 0} → P ⊎ Q → Q ⊎ P
  flip (inl h) = inr h
  flip (inr h) = inl h

  linked : (p q : NamedPort ℕ) → Linked N p q → FitOne p q
  unfolding FitOne
  linked p q (inl h) = in_links p q h
  linked p q (inr h) = flip (in_links q p h)

  in_boxes : IsBoxed N
  unfolding FitOne
  in_boxes = record { boxes = boxes; links = linked; app = own_box }

pub term_is_unblocked : TermIsUnblocked
term_is_unblocked w t count h =
    unblocked (translation_of w t count) (translation_net w t count h) (term_is_levelled w t count h)
    (in_boxes w t count h)
