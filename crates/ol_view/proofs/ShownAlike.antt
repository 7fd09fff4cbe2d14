-- Equal nets are shown alike.
use Rattle.std.proofs.Common.{◌≡◌, ℕ, zero, suc, ◌+◌, ◌≤◌, nat_lt, true, cond, List, [], ◌∷◌, ◌++◌, length, Option}
use Rattle.std.proofs.Common.{Some, None, count_by, is_some, codes, inl, inr, refl, sym, ap, ◌∙◌, arith}
use Rattle.std.specs.Fmt.{decimal}
use Rattle.std.proofs.lemmas.Bool.{cases_lt}
use Rattle.std.proofs.lemmas.List.{append-nil, get_or_past}
use Rattle.std.proofs.lemmas.List.Sums.{sum_by-cons}
use Rattle.ol_net.specs.declared.parts.Kind.{Kind}
use Rattle.ol_net.specs.declared.parts.Port.{Port}
use Rattle.ol_net.specs.declared.parts.Port.TheVariants.{Free, Of}
use Rattle.ol_net.specs.Parts.{slots_of}
use Rattle.ol_net.specs.Graph.{Graph, kind_at, has_slot, has_port, partner_of}
use Rattle.ol_net.specs.Nets.{SameNet}
use Rattle.ol_net.specs.Numbered.{numbered_port, net_of}
use Rattle.ol_net.proofs.Numbered.{same_kinds, linked, net_is_net, numbered_port-injective}
use Rattle.ol_net.proofs.Numbered.{partner_of-parts, partner_of-there}
use Rattle.ol_rules.proofs.Relation.{same_sym}
use Rattle.ol_view.specs.Laws.{IsTable, EqualNetsAreShownAlike}
use Rattle.ol_view.specs.ShowTexts.{partner_text, node_line}
use Rattle.ol_view.specs.Showing.{free_lines, partners_text, node_lines}
use Rattle.ol_net.specs.PartTexts.{kind_text, index_text, port_text}

-- ---- equal nets have the same nodes under the same numbers, and the same partners

ports : (g h : Graph) → SameNet (net_of g) (net_of h) → (p : Port) →
    has_port g.free g.nodes p ≡ has_port h.free h.nodes p
ports g h same (Free k) = ap (λ free. nat_lt k free) same.free_ports
ports g h same (Of n s) = ap (λ o. has_slot o s) (same_kinds g h same n.0)

partner_kept : (g h : Graph) → IsTable g → IsTable h → SameNet (net_of g) (net_of h) →
    (p q : Port) → partner_of g p ≡ Some q → partner_of h p ≡ Some q
partner_kept g h t u same p q e =
    let has : has_port h.free h.nodes p ≡ true = sym (ports g h same p) ∙ (partner_of-parts g p q e).0 in
    let there = partner_of-there h p has in
    let one = (net_is_net h u).one_link (numbered_port p) (numbered_port there.0) (numbered_port q)
    (linked h p there.0 u there.1) ((same.links (numbered_port p) (numbered_port q)).0 (linked g p q t e)) in
    there.1 ∙ ap (λ q. Some q) (numbered_port-injective there.0 q one)

partners : (g h : Graph) → IsTable g → IsTable h → SameNet (net_of g) (net_of h) → (p : Port) →
    partner_of g p ≡ partner_of h p
partners g h t u same p = go (partner_of g p) (partner_of h p) refl refl
  where
    go : (o q : Option Port) → partner_of g p ≡ o → partner_of h p ≡ q → partner_of g p ≡ partner_of h p
    go None None e f = e ∙ sym f
    go (Some o) q e f = e ∙ sym (partner_kept g h t u same p o e)
    go None (Some q) e f = partner_kept h g u t (same_sym (net_of g) (net_of h) same) p q f ∙ sym f

-- ---- as many nodes are live

count_one : (o : Option (Kind × ℕ)) (nodes : List (Option (Kind × ℕ))) →
    count_by is_some (o ∷ nodes) ≡ cond (is_some o) 1 0 + count_by is_some nodes
count_one o nodes = sum_by-cons (λ (x : Option (Kind × ℕ)). cond (is_some x) 1 0) o nodes

counts : (xs ys : List (Option (Kind × ℕ))) → ((n : ℕ) → kind_at xs n ≡ kind_at ys n) →
    count_by is_some xs ≡ count_by is_some ys
counts [] [] e = refl
counts (x ∷ xs) [] e =
    let none : x ≡ None = e 0 in
    let not_one : ◌≡◌ {A = ℕ} (cond (is_some x) 1 0) 0 = ap (λ (x : Option (Kind × ℕ)). cond (is_some x) 1 0) none in
    omega (arith, count_one x xs, not_one, counts xs [] (λ n. e (suc n)))
counts [] (y ∷ ys) e =
    let none : y ≡ None = sym (e 0) in
    let not_one : ◌≡◌ {A = ℕ} (cond (is_some y) 1 0) 0 = ap (λ (y : Option (Kind × ℕ)). cond (is_some y) 1 0) none in
    omega (arith, count_one y ys, not_one, counts [] ys (λ n. e (suc n)))
counts (x ∷ xs) (y ∷ ys) e =
    let one : x ≡ y = e 0 in
    count_one x xs ∙ ap (λ x. cond (is_some x) 1 0 + count_by is_some xs) one
    ∙ ap (λ n. cond (is_some y) 1 0 + n) (counts xs ys (λ n. e (suc n))) ∙ sym (count_one y ys)

pub live_alike : (g h : Graph) → SameNet (net_of g) (net_of h) → count_by is_some g.nodes ≡ count_by is_some h.nodes
live_alike g h same = counts g.nodes h.nodes (same_kinds g h same)

-- ---- so their lines are the same

module _ (g h : Graph) (same_kinds : (n : ℕ) → kind_at g.nodes n ≡ kind_at h.nodes n)
    (same_partners : (p : Port) → partner_of g p ≡ partner_of h p) where
  free_same : (n : ℕ) → free_lines g n ≡ free_lines h n
  free_same zero = refl
  free_same (suc n) =
      ap (λ l. l ++ (port_text (Free n) ++ partner_text (partner_of g (Free n)) ++ 10 ∷ [])) (free_same n)
      ∙ ap (λ o. free_lines h n ++ (port_text (Free n) ++ partner_text o ++ 10 ∷ [])) (same_partners (Free n))

  slots_same : (n s : ℕ) → partners_text g n s ≡ partners_text h n s
  slots_same n zero = refl
  slots_same n (suc s) =
      ap (λ l. l ++ partner_text (partner_of g (Of (record { 0 = n }) s))) (slots_same n s)
      ∙ ap (λ o. partners_text h n s ++ partner_text o) (same_partners (Of (record { 0 = n }) s))

  line_same : (n : ℕ) (o : Option (Kind × ℕ)) → node_line g n o ≡ node_line h n o
  line_same n None = refl
  line_same n (Some k) = ap (λ l. decimal n ++
      (32 ∷ kind_text k.0 ++ (32 ∷ index_text k.0 k.1 ++ (l ++ 10 ∷ [])))) (slots_same n (slots_of k.0))

  lines_same : (n : ℕ) → node_lines g n ≡ node_lines h n
  lines_same zero = refl
  lines_same (suc n) =
      ap (λ l. l ++ node_line g n (kind_at g.nodes n)) (lines_same n)
      ∙ ap (λ l. node_lines h n ++ l) (line_same n (kind_at g.nodes n))
      ∙ ap (λ o. node_lines h n ++ node_line h n o) (same_kinds n)

-- no line comes of the numbers that weren't given out
lines_past : (g : Graph) (n : ℕ) → length g.nodes ≤ n → node_lines g n ≡ node_lines g (length g.nodes)
lines_past g zero past = let e : 0 ≡ length g.nodes = omega arith in ap (λ n. node_lines g n) e
lines_past g (suc n) past = elim (cases_lt n (length g.nodes)) [
  | inl less ↦ let e : suc n ≡ length g.nodes = omega arith in ap (λ n. node_lines g n) e
  | inr more ↦
      ap (λ o. node_lines g n ++ node_line g n o) (get_or_past g.nodes n None more)
      ∙ append-nil (node_lines g n) ∙ lines_past g n more
]

pub shown_alike : EqualNetsAreShownAlike
shown_alike g h t u same =
    let all = length g.nodes + length h.nodes in
    let k = same_kinds g h same in
    let p = partners g h t u same in
    let count = live_alike g h same in
    let frees = free_same g h k p g.free ∙ ap (λ n. free_lines h n) same.free_ports in
    let nodes = sym (lines_past g all (omega arith)) ∙ lines_same g h k p all ∙ lines_past h all (omega arith) in
    ap (λ n. codes "nodes " ++ (decimal n ++ 10 ∷ []) ++ free_lines g g.free ++ node_lines g (length g.nodes)) count
    ∙ ap (λ l. codes "nodes " ++ (decimal
    (count_by is_some h.nodes) ++ 10 ∷ []) ++ l ++ node_lines g (length g.nodes)) frees
    ∙ ap (λ l. codes "nodes " ++ (decimal (count_by is_some h.nodes) ++ 10 ∷ []) ++ free_lines h h.free ++ l) nodes
