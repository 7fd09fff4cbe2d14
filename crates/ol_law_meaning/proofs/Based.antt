-- What a printed tree says of a term, by the term's own net.
use Rattle.std.proofs.Common.{◌≡◌, ℕ, Bool, true, List, [], refl, sym, subst}
use Rattle.ol_translate.specs.Translation.{translation_of}
use Rattle.ol_translate.specs.Names.{HasNames}
use Rattle.ol_law_meaning.proofs.Followed.{net_and_spots, path_is_trail}
use Rattle.ol_beta.proofs.Redexes.{no_leftmost}
use Rattle.ol_readback.specs.ReadTrees.{whole_term}
use Rattle.ol_readback.specs.Sources.{HasHeadsOf}
use Rattle.ol_readback.specs.Whole.{Part, preorder}
use Rattle.ol_readback.specs.Terms.{HasAllHeads, term_of}
use Rattle.ol_readback.specs.declared.answers.ReadNode.{ReadNode}
use Rattle.ol_law_meaning.specs.Contraction.{Tree}
use Rattle.ol_law_meaning.specs.Shows.{LacksHead, Shows}
use Rattle.ol_law_meaning.specs.Seen.{IsSeen, WholeSeats}
use Rattle.ol_law_meaning.specs.Meaning.{SaysOf, ShownIsReduct, ShownIsNormalForm, ShownHasNoEnd}
use Rattle.ol_law_meaning.proofs.Grounds.{whole_seen}
use Rattle.ol_law_meaning.proofs.Showing.{shows}
use Rattle.ol_law_meaning.proofs.LeftmostRoads.{tree_reached}
use Rattle.ol_law_meaning.proofs.Filling.{filled}
use Rattle.ol_law_meaning.proofs.Endings.{has_no_end, no_redex}
use Rattle.ol_term.specs.declared.translations.Translation.{Translation}

module _ (τ : Translation) where
  pub term_seen : (t : Tree) (names : ℕ) → HasNames t names → IsSeen τ (translation_of τ t names) [] 0 [] t WholeSeats
  term_seen t names h = whole_seen (translation_of τ t names) t h.bound
      (λ p q c d n l. (net_and_spots τ t names h p q c d).1 (n, l)) (λ p q c d r. path_is_trail τ t names h p q c d r)

  pub tree_shows : (t : Tree) (names : ℕ) → HasNames t names → (b : Bool) (T : Part true) →
      HasHeadsOf (translation_of τ t names) b (preorder T) → Shows b [] 0 T t
  tree_shows t names h b T r = shows τ (translation_of τ t names) b T t whole_term refl
      (record { seats = WholeSeats; seen = term_seen t names h }) r

pub shown_normal : ShownIsNormalForm
shown_normal t b T g h = let r = tree_reached b T t h g in (r.0, no_leftmost (term_of T) r.1)

pub shown_reduct : ShownIsReduct
shown_reduct t b T h = filled b T t h

pub shown_endless : ShownHasNoEnd
shown_endless t T h g v r n = has_no_end T t v g h r (no_redex v n)

module _ (τ : Translation) where
  pub places_say : (t : Tree) (names : ℕ) → HasNames t names →
      (b : Bool) (T : Part true) (ns : List ReadNode) → preorder T ≡ ns →
      HasHeadsOf (translation_of τ t names) b ns → SaysOf t b ns
  places_say t names h b T ns e r =
      let g = tree_shows τ t names h b T (subst (λ ns. HasHeadsOf (translation_of τ t names) b ns) (sym e) r) in
      let all : HasAllHeads ns → HasAllHeads (preorder T) = λ a. subst (λ ns. HasAllHeads ns) (sym e) a in
      let x = filled b T t g in
      record {
        tree = T;
        is_list = e;
        reduct = x.0;
        reduces = x.1;
        fills = x.2;
        leftmost = λ a. (shown_normal t b T g (all a)).0;
        normal = λ a. (shown_normal t b T g (all a)).1;
        endless = λ l k v m n. shown_endless t T (subst (λ b. Shows b [] 0 T t) l g)
            (subst (λ ns. LacksHead ns) (sym e) k) v m n;
      }
