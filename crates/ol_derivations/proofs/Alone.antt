-- What is read of an application is one: a tree, or a reason why there is none.
use Rattle.std.proofs.Common.{◌≡◌, ℕ, ◌<◌, ◌≤◌, List, length, refl, sym, ap, ◌∙◌, subst, arith}
use Rattle.ol_limits.specs.Limits.{most_depth, most_nodes}
use Rattle.ol_term.specs.Trees.{Tree, depth}
use Rattle.ol_net.specs.Graph.{Graph}
use Rattle.ol_net.specs.Nets.{IsNet, SameNet}
use Rattle.ol_net.specs.Numbered.{net_of}
use Rattle.ol_parse.specs.Numbered.{names_of, number}
use Rattle.ol_parse.specs.Parsed.{IsFileOf}
use Rattle.ol_parse.proofs.Exact.{one_file}
use Rattle.ol_parse.proofs.Files.{whole_bound, whole_named, whole_occurs}
use Rattle.ol_translate.specs.Names.{HasNames}
use Rattle.ol_translate.specs.Sizes.{size_of_translation}
use Rattle.ol_translate.specs.Translation.{translation_of}
use Rattle.ol_translate.proofs.Whole.{translation_net}
use Rattle.ol_rules.specs.declared.journal.NodeName.TheVariants.{Init}
use Rattle.ol_rules.proofs.Recount.{net_same}
use Rattle.ol_rules.proofs.Relation.{same_sym, same_trans}
use Rattle.ol_rules.proofs.UnderNames.{same_under}
use Rattle.ol_readback.specs.Terms.{HasAllHeads}
use Rattle.ol_readback.specs.declared.answers.ReadNode.{ReadNode}
use Rattle.ol_demand.specs.Answers.{start_of}
use Rattle.ol_demand.specs.Laws.{IsStart}
use Rattle.ol_demand.proofs.OneDemand.{demand_is_one, ends_or_goes_on}
use Rattle.ol_demand.proofs.Onward as onward
use Rattle.ol_derivations.specs.declared.reading.Bounds.{Bounds}
use Rattle.ol_derivations.specs.declared.read_trees.Seen.{Seen}
use Rattle.ol_derivations.specs.declared.reading.Lack.{Lack}
use Rattle.ol_derivations.specs.Applied.{IsApplied}
use Rattle.ol_derivations.specs.Reads.{IsNetOn, HasTree, HasNoTree, HasWholeTree, HasNoWholeTree, lack_words}
use Rattle.ol_derivations.proofs.Spelled.{text_of, application_file}

-- ---- the term, and its net

pub one_application : {function line : List ℕ} {t u : Tree} {names others : List (List ℕ)} →
    IsApplied function line t names → IsApplied function line u others → (t ≡ u) × (names ≡ others)
one_application {function} {line} {t} {u} {names} {others} a b =
    one_file (text_of function line) t u names others (application_file a) (application_file b)

has_names : {bytes : List ℕ} {t : Tree} {names : List (List ℕ)} → IsFileOf bytes t names → HasNames t (length names)
has_names {bytes} {t} {names} file =
    let own : HasNames (number file.named) (length (names_of file.named)) = record {
      bound = whole_bound file.named;
      named = whole_named file.named;
      each = whole_occurs file.named;
    } in
    subst (λ t. HasNames t (length names)) (sym file.tree)
    (subst (λ (names : List (List ℕ)). HasNames (number file.named) (length names)) (sym file.free_names) own)

deep_or_not : {function line : List ℕ} {names others : List (List ℕ)} {t u : Tree} → IsApplied function line t names →
    IsApplied function line u others → depth t ≤ most_depth → most_depth < depth u → ⊥
deep_or_not i j low above = let e = ap depth (one_application i j).0 in omega (arith, e, low, above)

module _ {bounds : Bounds} {function line : List ℕ} where
  pub net_is : {names : List (List ℕ)} {g : Graph} → IsNetOn bounds function line names g → IsNet (net_of g)
  net_is {names} {g} on =
      let t = translation_of bounds.translation on.term (length names) in
      net_same t (net_of g) (same_sym (net_of g) t on.net.same)
      (translation_net bounds.translation on.term (length names) (has_names (application_file on.applied)))

  starts : {names : List (List ℕ)} {g : Graph} → IsNetOn bounds function line names g → IsStart (start_of g)
  starts {names} {g} on = onward.is_start g (net_is on)

  same_start : {names others : List (List ℕ)} {g h : Graph} → IsNetOn bounds function line names g →
      IsNetOn bounds function line others h → SameNet (start_of g) (start_of h)
  same_start {names} {others} {g} {h} a b =
      let w = bounds.translation in
      let e = one_application a.applied b.applied in
      let s = same_sym (net_of h) (translation_of w b.term (length others)) b.net.same in
      let named = subst (λ (names : List (List ℕ)). SameNet (translation_of w b.term (length names)) (net_of h)) (sym e.1) s in
      let same = subst (λ t. SameNet (translation_of w t (length names)) (net_of h)) (sym e.0) named in
      same_under Init (net_of g) (net_of h)
      (same_trans (net_of g) (translation_of w a.term (length names)) (net_of h) a.net.same same)

  too_deep : {names others : List (List ℕ)} {g : Graph} {t : Tree} → IsNetOn bounds function line names g →
      IsApplied function line t others → most_depth < depth t → ⊥
  too_deep on i above =
      let e = ap depth (one_application on.applied i).0 in
      let s = on.shallow in
      omega (arith, e, s, above)

  too_large : {names others : List (List ℕ)} {g : Graph} {t : Tree} → IsNetOn bounds function line names g →
      IsApplied function line t others → most_nodes < size_of_translation bounds.translation t → ⊥
  too_large on i above =
      let e = ap (size_of_translation bounds.translation) (one_application on.applied i).0 in
      let s = on.small in
      omega (arith, e, s, above)

-- ---- the tree

abbrev seen_of : List ReadNode → List (List ℕ) → Seen
seen_of tree names = record { tree = tree; names = names }

same_seen : (a b : Seen) → a.tree ≡ b.tree → a.names ≡ b.names → a ≡ b
same_seen a b e f = ap (λ (tree : List ReadNode). seen_of tree a.names) e
    ∙ ap (λ (names : List (List ℕ)). seen_of b.tree names) f

module _ {bounds : Bounds} {function line : List ℕ} where
  pub one_tree : {a b : Seen} → HasTree bounds function line a → HasTree bounds function line b → a ≡ b
  one_tree {a} {b} h k =
      let e = demand_is_one (start_of h.net) (start_of k.net) _ _ bounds.heads.most h.journal k.journal a.tree b.tree
      (starts h.of) (starts k.of).once (same_start h.of k.of) h.read.0.is k.read.0.is in
      same_seen a b e.1 (one_application h.of.applied k.of.applied).1

  pub not_both : {seen : Seen} {lack : Lack} → HasTree bounds function line seen →
      HasNoTree bounds function line lack → ⊥
  not_both {seen} h (HasNoTree.spent {g = g} on more) =
      ends_or_goes_on (start_of h.net) (start_of g) _ bounds.heads.most bounds.fuel.most h.journal seen.tree
      (starts h.of) (starts on).once (same_start h.of on) h.read.0.is h.read.1 more
  not_both h (HasNoTree.deep i above) = too_deep h.of i above
  not_both h (HasNoTree.large i low above) = too_large h.of i above

  pub one_lack : {lack other : Lack} → HasNoTree bounds function line lack → HasNoTree bounds function line other →
      lack ≡ other
  one_lack (HasNoTree.spent on more) (HasNoTree.spent over most) = refl
  one_lack (HasNoTree.spent on more) (HasNoTree.deep i above) = absurd (too_deep on i above)
  one_lack (HasNoTree.spent on more) (HasNoTree.large i low above) = absurd (too_large on i above)
  one_lack (HasNoTree.deep i above) (HasNoTree.spent on more) = absurd (too_deep on i above)
  one_lack (HasNoTree.deep i above) (HasNoTree.deep j high) = refl
  one_lack (HasNoTree.deep i above) (HasNoTree.large j low high) = absurd (deep_or_not j i low above)
  one_lack (HasNoTree.large i low above) (HasNoTree.spent on more) = absurd (too_large on i above)
  one_lack (HasNoTree.large i low above) (HasNoTree.deep j high) = absurd (deep_or_not i j low high)
  one_lack (HasNoTree.large i low above) (HasNoTree.large j few high) = refl

  pub one_whole : (a b : Seen) → HasWholeTree bounds function line a → HasWholeTree bounds function line b → a ≡ b
  one_whole a b h k = one_tree h.0 k.0

  pub not_whole : {seen : Seen} {words : List ℕ} → HasWholeTree bounds function line seen →
      HasNoWholeTree bounds function line words → ⊥
  not_whole h (HasNoWholeTree.no_tree none) = not_both h.0 none
  not_whole h (HasNoWholeTree.holes has left) = left (subst (λ (seen : Seen). HasAllHeads seen.tree) (one_tree h.0 has) h.1)

  pub one_why : {words others : List ℕ} → HasNoWholeTree bounds function line words →
      HasNoWholeTree bounds function line others → words ≡ others
  one_why (HasNoWholeTree.no_tree h) (HasNoWholeTree.no_tree k) = ap lack_words (one_lack h k)
  one_why (HasNoWholeTree.no_tree h) (HasNoWholeTree.holes has left) = absurd (not_both has h)
  one_why (HasNoWholeTree.holes has left) (HasNoWholeTree.no_tree h) = absurd (not_both has h)
  one_why (HasNoWholeTree.holes has left) (HasNoWholeTree.holes had some) = refl
