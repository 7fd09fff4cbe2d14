-- What two trees that differ have where they differ has different texts.
use Rattle.std.proofs.Common.{◌≡◌, ℕ, zero, suc, ◌+◌, ◌<◌, ◌≤◌, ◌^◌, inl, inr, Option, Some, None, List, [], ◌∷◌, ◌++◌, length, length-append, get_or, codes, refl, sym, ap, ◌∙◌, subst, arith}
use Rattle.std.specs.Prelude.{◌≢◌, slice_index}
use Rattle.std.proofs.lemmas.Bool.{cases_order}
use Rattle.std.proofs.lemmas.List.{length-map}
use Rattle.ol_limits.specs.Limits.{most_term_bytes}
use Rattle.ol_net.specs.declared.parts.Kind.{Kind}
use Rattle.ol_net.specs.Numbered.{net_of}
use Rattle.ol_context.specs.Short.{live}
use Rattle.ol_rules.specs.declared.journal.NodeName.TheVariants.{Init}
use Rattle.ol_net.proofs.Numbered.{few_live}
use Rattle.ol_rules.proofs.StartNets.{one_start}
use Rattle.ol_parse.specs.Grammar.{Named, var, lam, app}
use Rattle.ol_parse.specs.Laws.{leaves}
use Rattle.ol_term.specs.NameLists.{position_of, put_unless, with_names}
use Rattle.ol_parse.specs.Numbered.{unbound, free_in, once, names_of}
use Rattle.ol_parse.specs.Parsed.{AreNames, IsFileOf}
use Rattle.ol_parse.proofs.Sizes.{few_leaves}
use Rattle.ol_parse.proofs.Words.{names_good}
use Rattle.ol_translate.specs.Translation.{nodes_of}
use Rattle.ol_translate.proofs.Sizing.{size_of_nodes}
use Rattle.ol_readback.specs.Terms.{HasAllHeads}
use Rattle.ol_readback.specs.Texts.{rounds}
use Rattle.ol_readback.specs.Whole.{IsWholeTree}
use Rattle.ol_readback.specs.declared.answers.ReadNode.{ReadNode}
use Rattle.ol_demand.specs.Answers.{start_of}
use Rattle.ol_demand.proofs.Onward as onward
use Rattle.ol_demand.proofs.UnderNames.{live_under}
use Rattle.ol_equal.specs.Comparing.{TreeWithNames, place_at, IsFirstApart}
use Rattle.ol_readback.specs.declared.answers.ReadNode.TheVariants as node
use Rattle.ol_readback.specs.declared.answers.HeadVar.{HeadVar}
use Rattle.ol_readback.proofs.OneTree.{all_left, all_right}
use Rattle.ol_equal.specs.declared.answers.Compared.TheVariants.{Equal, Different, Cut}
use Rattle.ol_equal.proofs.Walks.{path-within}
use Rattle.ol_derivations.specs.Heads.{all_names, lams_of, head_text, IsHeadText}
use Rattle.ol_derivations.specs.HeadLaws.{IsToldHead}
use Rattle.ol_derivations.proofs.Plain.{Lacks}
use Rattle.ol_derivations.proofs.OneTextOneHead.{one_text_is_one_head}
use Rattle.ol_derivations.specs.declared.reading.Bounds.{Bounds}
use Rattle.ol_derivations.specs.declared.read_trees.Seen.{Seen}
use Rattle.ol_derivations.specs.Reads.{HasTree}
use Rattle.ol_derivations.specs.Grades as grades
use Rattle.ol_derivations.specs.Grades.{IsTermText, HaveThere}
use Rattle.ol_derivations.specs.GradeLaws.{HeadsDiffer}
use Rattle.ol_derivations.proofs.Alone.{net_is}
use Rattle.ol_derivations.proofs.Bounded.{sum_lams, few_binders, few_round}
use Rattle.ol_derivations.proofs.Commas.{bare_lacks, head_lacks, question, full_stop}
use Rattle.ol_derivations.proofs.Spelled.{text_of, application_file}
use Rattle.ol_term.proofs.Binders.{without_short}

-- ---- few names

few_once : (xs : List (List ℕ)) → length (once xs) ≤ length xs
few_once [] = omega arith
few_once (x ∷ xs) = let h = few_once xs in let k = without_short x (once xs) in omega (arith, h, k)

few_unbound : (x : List ℕ) (o : Option ℕ) → length (unbound x o) ≤ 1
few_unbound x (Some k) = omega arith
few_unbound x None = omega arith

few_free : (t : Named) (binders : List (List ℕ)) → length (free_in binders t) ≤ leaves t
few_free (var x) binders = few_unbound x (position_of x binders)
few_free (lam x t) binders = few_free t (x ∷ binders)
few_free (app f t) binders =
    let h = few_free f binders in
    let k = few_free t binders in
    let e = length-append (free_in binders f) (free_in binders t) in
    omega (arith, h, k, e)

few_names : (bytes : List ℕ) (t : Named) (names : List (List ℕ)) → names ≡ names_of t → leaves t ≤ length bytes →
    length names ≤ length bytes
few_names bytes t names e h =
    let n = ap (λ (names : List (List ℕ)). length names) e in
    let k = few_once (free_in [] t) in
    let f = few_free t [] in
    omega (arith, n, k, f, h)

one_more : (o : Option ℕ) (names : List (List ℕ)) (x : List ℕ) → length (put_unless o names x) ≤ length names + 1
one_more (Some k) names x = omega arith
one_more None names x = let e = length-append names (x ∷ []) in omega (arith, e)

few_with : (names xs : List (List ℕ)) → length (with_names names xs) ≤ length names + length xs
few_with names [] = omega arith
few_with names (x ∷ xs) =
    let h = one_more (position_of x names) names x in
    let k = few_with (put_unless (position_of x names) names x) xs in
    omega (arith, h, k)

long_text : (function line : List ℕ) → length function ≤ most_term_bytes → length line ≤ most_term_bytes →
    length (text_of function line) ≤ 2097157
long_text function line f l =
    let a = length-append (40 ∷ function) (10 ∷ (41 ∷ (32 ∷ []))) in
    let b = length-append ((40 ∷ function) ++ (10 ∷ (41 ∷ (32 ∷ [])))) line in
    omega (arith, a, b, f, l)

-- ---- few nodes

module _ {bounds : Bounds} {function line : List ℕ} {seen : Seen} (h : HasTree bounds function line seen) where
  few_nodes : live (start_of h.net) ≤ 200000
  few_nodes =
      let a = live_under Init one_start (net_of h.net) in
      let b = few_live 0 h.net.nodes in
      let c = ap (λ (nodes : List (Option (Kind × ℕ))). length nodes) h.of.net.numbers in
      let d = length-map (nodes_of bounds.translation h.of.term) (λ (k : Kind × ℕ). Some k) in
      let e = size_of_nodes bounds.translation h.of.term in
      let s = h.of.small in
      omega (arith, a, b, c, d, e, s)

  file : IsFileOf (text_of function line) h.of.term seen.names
  file = application_file h.of.applied

  pub few_free_names : length function ≤ most_term_bytes → length line ≤ most_term_bytes →
      length seen.names ≤ 2097157
  few_free_names f l =
      let n = few_names (text_of function line) file.named seen.names file.free_names
      (few_leaves (text_of function line) file.named file.text) in
      let k = long_text function line f l in
      omega (arith, n, k)

  pub names_are : AreNames seen.names
  names_are = subst AreNames (sym file.free_names) (names_good (text_of function line) file.named file.text)

  pub whole : IsWholeTree seen.tree
  whole = onward.done_whole h.net h.last (net_is h.of) bounds.heads.most bounds.fuel.most seen.tree h.journal h.read

  few_lams : bounds.heads.most < 2 ^ 32 → sum_lams seen.tree ≤ 2 ^ 64
  few_lams low =
      let n = few_nodes in
      let j = h.read.1 in
      let f = bounds.fuel.within in
      let s = few_binders h.read.0.is (omega (arith, n, j, f)) in
      omega (arith, s, low)

  pub told_head : bounds.heads.most < 2 ^ 32 → (all : List (List ℕ)) (k : ℕ) (text : List ℕ) →
      IsHeadText all seen.names seen.tree k text → IsToldHead all seen.names seen.tree k text
  told_head low all k text is = record {
    names_are = names_are;
    named = h.named;
    whole = whole;
    few = λ tree e. subst (λ ns. slice_index (rounds 0 tree) k + lams_of (place_at ns k) ≤ 2 ^ 64) e
        (few_round (2 ^ 64) tree k (subst (λ ns. sum_lams ns ≤ 2 ^ 64) (sym e) (few_lams low)));
    is = is;
  }

-- ---- two texts

-- the text of a head is neither `?` nor `...`
module _ (all names : List (List ℕ)) (rs : List ℕ) (k : ℕ) where
  no_question : (l : ℕ) (v : HeadVar) (m : ℕ) → AreNames names →
      head_text all names rs k (node.Head l v m) ≡ codes "?" → ⊥
  no_question l v m g e =
      let out = head_lacks 63 question (λ e. omega (arith, e)) all names rs k l v m g in
      (subst (Lacks 63) e out).0 refl

  no_dots : (l : ℕ) (v : HeadVar) (m : ℕ) → AreNames names →
      head_text all names rs k (node.Head l v m) ≡ codes "..." → ⊥
  no_dots zero v m g e = (subst (Lacks 46) e (bare_lacks 46 full_stop all names rs v m g)).0 refl
  no_dots (suc l) v m g e = let s : ◌≡◌ {A = ℕ} 92 46 = ap (λ (t : List ℕ). get_or t 0 0) e in omega (arith, s)

head_at : (ns : List ReadNode) (k : ℕ) → HasAllHeads ns → k < length ns → HasAllHeads (place_at ns k ∷ [])
head_at [] k h l = absurd (omega (arith, l))
head_at (n ∷ ns) zero h l = all_left (n ∷ []) ns h
head_at (n ∷ ns) (suc k) h l = head_at ns k (all_right (n ∷ []) ns h) (omega (arith, l))

pub one_place : (names : TreeWithNames) (a b : List ReadNode) (j k : ℕ) (p q : List ℕ) →
    IsFirstApart names a b j p → IsFirstApart names a b k q → j ≡ k
one_place names a b j k p q x y = elim (cases_order j k) [
  | inl same ↦ same
  | inr other ↦ elim other [
    | inl low ↦ absurd (x.apart (y.before j low))
    | inr high ↦ absurd (y.apart (x.before k high))
  ]
]

-- one text would be one head
module _ (bounds : Bounds) (student solution line : List ℕ) (wanted : Seen) (low : bounds.heads.most < 2 ^ 32)
    (f : IsTermText student) (g : IsTermText solution) (i : IsTermText line)
    (has : HasTree bounds solution line wanted) (got : Seen) (had : HasTree bounds student line got)
    (expected found : List ℕ) (there : HaveThere wanted got expected found) where
  abbrev names : TreeWithNames
  names = grades.names_of wanted got

  few_all : length (all_names names) < 2 ^ 32
  few_all =
      let a = few_free_names has g.short i.short in
      let b = few_free_names had f.short i.short in
      let c = few_with [] wanted.names in
      let d = few_with (with_names [] wanted.names) got.names in
      omega (arith, a, b, c, d)

  two_heads : HasAllHeads (place_at wanted.tree there.place ∷ place_at got.tree there.place ∷ []) → expected ≢ found
  two_heads heads same =
      let all = all_names names in
      let k = there.place in
      there.first.apart (one_text_is_one_head names wanted.tree got.tree k expected few_all there.first.before heads
      (told_head has low all k expected there.of_wanted)
      (told_head had low all k expected (subst (IsHeadText all got.names got.tree k) (sym same) there.of_got)))

  is_head : (n : ReadNode) → place_at wanted.tree there.place ≡ n →
      expected ≡ head_text (all_names names) wanted.names (rounds 0 there.of_wanted.tree) there.place n
  is_head n e = there.of_wanted.is
      ∙ ap (head_text (all_names names) wanted.names (rounds 0 there.of_wanted.tree) there.place) e

  is_none : expected ≡ found → (o : ReadNode) → place_at got.tree there.place ≡ o →
      expected ≡ head_text (all_names names) got.names (rounds 0 there.of_got.tree) there.place o
  is_none same o e = same ∙ there.of_got.is
      ∙ ap (head_text (all_names names) got.names (rounds 0 there.of_got.tree) there.place) e

  -- a head, and none
  head_and_none : HasAllHeads wanted.tree →
      (HasAllHeads (place_at wanted.tree there.place ∷ place_at got.tree there.place ∷ []) → ⊥) → expected ≢ found
  head_and_none whole none same =
      let k = there.place in
      go (place_at wanted.tree k) (place_at got.tree k) refl refl
      (head_at wanted.tree k whole (path-within wanted.tree k there.path there.first.path_in_a)) none
    where
      go : (n o : ReadNode) → place_at wanted.tree there.place ≡ n → place_at got.tree there.place ≡ o →
          HasAllHeads (n ∷ []) → (HasAllHeads (n ∷ o ∷ []) → ⊥) → ⊥
      go (node.Head l v m) (node.Head j w p) d e h none = none tt
      go (node.Head l v m) node.NoHead d e h none =
          no_question (all_names names) wanted.names (rounds 0 there.of_wanted.tree) there.place l v m (names_are has)
          (sym (is_head (node.Head l v m) d) ∙ is_none same node.NoHead e)
      go (node.Head l v m) node.Cut d e h none =
          no_dots (all_names names) wanted.names (rounds 0 there.of_wanted.tree) there.place l v m (names_are has)
          (sym (is_head (node.Head l v m) d) ∙ is_none same node.Cut e)
      go node.NoHead o d e h none = absurd h
      go node.Cut o d e h none = absurd h

pub heads_differ : HeadsDiffer
heads_differ bounds student solution line wanted Equal expected found low f g i has h apart there same = apart refl
heads_differ bounds student solution line wanted (Different path) expected found low f g i has h apart there same =
    let got = h.got in
    let e = one_place (grades.names_of wanted got) wanted.tree got.tree h.is.0 there.place path there.path h.is.1
    there.first in
    two_heads bounds student solution line wanted low f g i has.0 got h.has expected found there
    (subst (λ k. HasAllHeads (place_at wanted.tree k ∷ place_at got.tree k ∷ [])) e h.is.2) same
heads_differ bounds student solution line wanted (Cut path) expected found low f g i has h apart there same =
    let got = h.got in
    let e = one_place (grades.names_of wanted got) wanted.tree got.tree h.is.0 there.place path there.path h.is.1
    there.first in
    head_and_none bounds student solution line wanted low f g i has.0 got h.has expected found there has.1
    (subst (λ k. HasAllHeads (place_at wanted.tree k ∷ place_at got.tree k ∷ []) → ⊥) e h.is.2) same
