-- Edges that weigh the same stand for the same net, and the edges where one word is set.
-- Used in Exchange and Publish.
use Rattle.std.proofs.Common.{◌≡◌, ◌≢◌, ℕ, suc, ◌+◌, ◌==◌, ◌<◌, Bool, if◌then◌else◌, nat_eq, List, [], ◌∷◌, slice_index}
use Rattle.std.proofs.Common.{slice_set, inl, inr, refl, sym, ap, ◌∙◌, arith, get_or-set_other}
use Rattle.std.proofs.lemmas.Bool.{cases_eq}
use Rattle.ol_law_edges.specs.Edges.{ends}
use Rattle.ol_net.specs.Nets.{NamedNet}
use Rattle.ol_rules.specs.declared.journal.NodeName.{NodeName}
use Rattle.ol_wire.specs.declared.layout.Parts.{Parts}
use Rattle.ol_wire.specs.Layout.{WordPart, ticket, live_word, port, field, wire, between, left}
use Rattle.ol_wire.specs.Layout.{right, entry, past, part_of_word, table_size}
use Rattle.ol_wire.specs.Weights.{pairs}
use Rattle.ol_wire.specs.Edges.{edge_in, edges_in}
use Rattle.ol_wire.specs.Stands.{StandsForNet}
use Rattle.ol_wire.proofs.InWords.Alike.{Alike, alike_ends, alike_joined, alike_sym}
use Rattle.ol_wire.proofs.InWords.EdgeList.{word_edge}
use Rattle.ol_wire.proofs.InWords.PlaceSums.{sum_to, sum_one}
use Rattle.ol_wire.proofs.InWords.Edges.{edges_weigh}

pub stands_alike : (z : Parts) (N : NamedNet NodeName) (reached : ℕ → Bool) (es fs : List (ℕ × ℕ)) →
    Alike es fs → StandsForNet z N reached es → StandsForNet z N reached fs
stands_alike z N reached es fs a s =
    let back : (e : ℕ) → ends nat_eq e fs ≡ ends nat_eq e es = λ e. sym (alike_ends es fs a e) in record {
      ports = λ q e h. back e ∙ s.ports q e h;
      wires = λ e h. back e ∙ s.wires e h;
      others = λ e h. s.others e (omega (arith, h, back e));
      links = λ q r d e hd he. (
        (λ l. let t = (s.links q r d e hd he).0 l in
            record { first = t.first; second = t.second; apart = t.apart; joined = alike_joined es fs a d e t.joined }),
        (λ t. (s.links q r d e hd he).1 (record {
          first = t.first;
          second = t.second;
          apart = t.apart;
          joined = alike_joined fs es (alike_sym es fs a) d e t.joined;
        })),
      );
    }

-- only the edge of a cell that isn't empty looks at the next word
next_free : (net : NamedNet NodeName) (r : Bool) (q : WordPart) (w word m n : ℕ) →
    (q ≡ left → word ≡ 0) → edge_in net r q w word m ≡ edge_in net r q w word n
next_free net r ticket w word m n e = refl
next_free net r live_word w word m n e = refl
next_free net r (port a) w word m n e = refl
next_free net r (field x c) w word m n e = refl
next_free net r (wire j) w word m n e = refl
next_free net r (between t a b) w word m n e = refl
next_free net r left w word m n e = ap (λ y. if y == 0 then [] else (y, m) ∷ []) (e refl)
    ∙ sym (ap (λ y. if y == 0 then [] else (y, n) ∷ []) (e refl))
next_free net r right w word m n e = refl
next_free net r entry w word m n e = refl
next_free net r past w word m n e = refl

-- the word i is set, where it isn't the right word of a cell that isn't empty; whether it is reached may change
module _ (z : Parts) (net : NamedNet NodeName) (reached reached' : ℕ → Bool) (words : List ℕ)
    (i x : ℕ) (within : i < table_size z) (same : (w : ℕ) → w ≢ i → reached' w ≡ reached w)
    (none : (w : ℕ) → part_of_word z w ≡ left → suc w ≡ i → slice_index words w ≡ 0) where
  abbrev after : List ℕ
  after = slice_set words i x

  next_same : (w : ℕ) → edge_in net (reached w) (part_of_word z w) w (slice_index words w)
      (slice_index after (suc w)) ≡ word_edge z net reached words w
  next_same w = elim (cases_eq (suc w) i) [
    | inl e ↦ next_free net (reached w) (part_of_word z w) w (slice_index words w)
        (slice_index after (suc w)) (slice_index words (suc w)) (λ q. none w q e)
    | inr d ↦ ap (edge_in net (reached w) (part_of_word z w) w (slice_index words w))
        (get_or-set_other words i (suc w) x 0 d)
  ]

  others_same : (w : ℕ) → w ≢ i → word_edge z net reached' after w ≡ word_edge z net reached words w
  others_same w d =
      ap (λ r. edge_in net r (part_of_word z w) w (slice_index after w) (slice_index after (suc w))) (same w d)
      ∙ ap (λ y. edge_in net (reached w) (part_of_word z w) w y (slice_index after (suc w)))
      (get_or-set_other words i w x 0 d) ∙ next_same w

  pub edges_set : (h : ℕ → ℕ → ℕ) → pairs h (edges_in z net reached' after (table_size z)) + pairs h
      (word_edge z net reached words i) ≡ pairs h
      (edges_in z net reached words (table_size z)) + pairs h (word_edge z net reached' after i)
  edges_set h =
      let f : ℕ → ℕ = λ w. pairs h (word_edge z net reached' after w) in
      let g : ℕ → ℕ = λ w. pairs h (word_edge z net reached words w) in
      let e : sum_to f (table_size z) + g i ≡ sum_to g (table_size z) + f i = sum_one f g
      (table_size z) i within (λ w lt d. ap (pairs h) (others_same w d)) in
      omega (
        arith,
        e,
        edges_weigh h z net reached' after (table_size z),
        edges_weigh h z net reached words (table_size z),
      )
