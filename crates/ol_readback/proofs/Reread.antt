-- What is printed is read back.
use Rattle.std.proofs.Common.{◌≡◌, ℕ, ◌<◌, ◌^◌, List, [], length, true, refl, sym, ap, ◌∙◌, subst, arith, append-nil}
use Rattle.ol_term.specs.NameLists.{NoNameTwice}
use Rattle.ol_parse.specs.Parsed.{AreNames}
use Rattle.ol_readback.specs.Whole.{Part, preorder, IsBound}
use Rattle.ol_readback.specs.Texts.{AreNamed, rounds, text_of_tree}
use Rattle.ol_readback.specs.Terms.{HasAllHeads, term_of, IsReadAs}
use Rattle.ol_readback.specs.PrintedLaws.{PrintedIsRead}
use Rattle.ol_readback.proofs.OneTree.{list_is_of_one_tree, no_redex}
use Rattle.ol_readback.proofs.Grammatical.{tokens, made, tree_is_term}
use Rattle.ol_readback.proofs.Scoped.{IsGood, good}
use Rattle.ol_readback.proofs.Respelled.{tree_spelled}
use Rattle.ol_readback.proofs.Renumbered.{tree_numbered, tree_free}

tree_is_read : (names : List (List ℕ)) (t : Part true) → AreNames names → NoNameTwice names →
    length names < 2 ^ 32 → length (text_of_tree names t) < 2 ^ 64 →
    AreNamed (length names) (preorder t) → IsBound [] 0 t → HasAllHeads (preorder t) →
    IsReadAs names (text_of_tree names t) (term_of t)
tree_is_read names t words different few short named bound all =
    let rs = rounds 0 t in
    let each : IsGood (length names) (rounds 0 t) [] 0 0 t = good names
    (rounds 0 t) t [] 0 0 [] [] bound named all refl (append-nil (rounds 0 t)) refl (omega arith) in
    record {
      named = made names (rounds 0 t) 0 t;
      text = record {
        tokens = tokens names (rounds 0 t) 0 t;
        spelled = tree_spelled names (rounds 0 t) words few t each;
        term = tree_is_term names (rounds 0 t) t all;
      };
      free_names = tree_free names (rounds 0 t) different few t each;
      is = tree_numbered names (rounds 0 t) different few t each;
    }

pub printed_is_read : PrintedIsRead
printed_is_read names ns text words different few short named whole all printed t e =
    let here : whole.tree ≡ t = list_is_of_one_tree whole.tree t (whole.is_list ∙ sym e) in
    let there : printed.tree ≡ t = list_is_of_one_tree printed.tree t (printed.listed ∙ sym e) in
    let is : text_of_tree names t ≡ text = ap (text_of_tree names) (sym there) ∙ sym printed.is in
    let all_heads : HasAllHeads (preorder t) = subst HasAllHeads (sym e) all in
    let size = ap length is in
    let read = tree_is_read names t words different few (omega arith)
    (subst (AreNamed (length names)) (sym e) named) (subst (IsBound [] 0) here whole.bound) all_heads in
    (subst (λ (x : List ℕ). IsReadAs names x (term_of t)) is read, no_redex t all_heads)
