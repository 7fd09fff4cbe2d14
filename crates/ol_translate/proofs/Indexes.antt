-- The indexes of a term's nodes: none is greater than the level by more than the number of nodes.
use Rattle.std.proofs.Common.{◌≡◌, ℕ, zero, suc, ◌≤◌, ◌+◌, List, [], ◌∷◌, ◌++◌, length, true, false, nat_eq, nat_lt}
use Rattle.std.proofs.Common.{Option, None, Some, refl, arith, length-append, get_or}
use Rattle.std.proofs.lemmas.Bool.Decides.{nat_tests}
use Rattle.ol_term.specs.declared.translations.Translation.{Translation}
use Rattle.ol_term.specs.Trees.{Tree, var, free, lam, app}
use Rattle.ol_net.specs.declared.parts.Kind.{Kind}
use Rattle.ol_net.specs.declared.parts.Kind.TheVariants as kind
use Rattle.ol_net.specs.declared.parts.Port.{Port}
use Rattle.ol_net.specs.Build.{build_top, is_bad_index, BadIndexAt, NoneOf}
use Rattle.ol_net.specs.Numbered.{all_live}
use Rattle.ol_net.specs.Indexes.{top_index_of}
use Rattle.ol_translate.specs.Translation.{Subnet, subnet_of, application, application_to, applied}
use Rattle.ol_translate.specs.Translation.{bare_variable, erasers, bracket_nodes, past_brackets}
use Rattle.ol_translate.specs.Translation.{fans, fan_nodes, merged, wire_of, slot_port, nodes_of}

-- the index of a node that is no eraser is at most m, and an eraser's is 0
abbrev pub IsLow : ℕ → Kind × ℕ → Type 0
IsLow m (kind.Lam, i) = i ≤ m
IsLow m (kind.App, i) = i ≤ m
IsLow m (kind.Fan, i) = i ≤ m
IsLow m (kind.Croissant, i) = i ≤ m
IsLow m (kind.Bracket, i) = i ≤ m
IsLow m (kind.Eraser, i) = i ≡ 0

abbrev pub AreLow : ℕ → List (Kind × ℕ) → Type 0
AreLow m [] = Unit {0}
AreLow m (node ∷ nodes) = IsLow m node × AreLow m nodes

IsLow-weaker : (m l : ℕ) (node : Kind × ℕ) → m ≤ l → IsLow m node → IsLow l node
IsLow-weaker m l (kind.Lam, i) h low = omega arith
IsLow-weaker m l (kind.App, i) h low = omega arith
IsLow-weaker m l (kind.Fan, i) h low = omega arith
IsLow-weaker m l (kind.Croissant, i) h low = omega arith
IsLow-weaker m l (kind.Bracket, i) h low = omega arith
IsLow-weaker m l (kind.Eraser, i) h low = low

AreLow-weaker : (m l : ℕ) (nodes : List (Kind × ℕ)) → m ≤ l → AreLow m nodes → AreLow l nodes
AreLow-weaker m l [] h low = tt
AreLow-weaker m l (node ∷ nodes) h low = (IsLow-weaker m l node h low.0, AreLow-weaker m l nodes h low.1)

AreLow-append : (m : ℕ) (xs ys : List (Kind × ℕ)) → AreLow m xs → AreLow m ys → AreLow m (xs ++ ys)
AreLow-append m [] ys hx hy = hy
AreLow-append m (x ∷ xs) ys hx hy = (hx.0, AreLow-append m xs ys hx.1 hy)

erasers_low : (m : ℕ) (x : Option Port) → AreLow m (erasers x)
erasers_low m None = (refl, tt)
erasers_low m (Some w) = tt

brackets_low : (m n : ℕ) (wires : List (ℕ × Port)) → n ≤ m → AreLow m (bracket_nodes n wires)
brackets_low m n [] h = tt
brackets_low m n (w ∷ wires) h = (h, brackets_low m n wires h)

fan_low : (m n : ℕ) (x : Option Port) → n ≤ m → AreLow m (fan_nodes n x)
fan_low m n None h = tt
fan_low m n (Some p) h = (h, tt)

fans_low : (m n f : ℕ) (wires more : List (ℕ × Port)) → n ≤ m → AreLow m (fans n f wires more).nodes
fans_low m n f wires [] h = tt
fans_low m n f wires (w ∷ more) h =
    let x = wire_of w.0 wires in
    AreLow-append m (fan_nodes n (wire_of w.0 wires))
    (fans n (f + length (fan_nodes n (wire_of w.0 wires))) (merged f (wire_of w.0 wires) w wires) more).nodes
    (fan_low m n (wire_of w.0 wires) h)
    (fans_low m n (f + length (fan_nodes n (wire_of w.0 wires))) (merged f (wire_of w.0 wires) w wires) more h)

application_low : (m n k : ℕ) (M N : Subnet) → n ≤ m → AreLow m M.nodes → AreLow m N.nodes →
    AreLow m (application n k M N).nodes
application_low m n k M N h left right =
    let b = k + 1 + length M.nodes + length N.nodes in
    let F = fans n (k + 1 + length M.nodes + length N.nodes + length N.wires) M.wires
    (past_brackets (k + 1 + length M.nodes + length N.nodes) N.wires) in
    AreLow-append m (((kind.App, n) ∷ M.nodes) ++ N.nodes) (bracket_nodes n N.wires ++ F.nodes)
    (AreLow-append m ((kind.App, n) ∷ M.nodes) N.nodes (h, left) right)
    (AreLow-append m (bracket_nodes n N.wires) F.nodes (brackets_low m n N.wires h)
    (fans_low m n (k + 1 + length M.nodes + length N.nodes + length N.wires) M.wires
    (past_brackets (k + 1 + length M.nodes + length N.nodes) N.wires) h))

application_longer : (n k : ℕ) (M N : Subnet) → 1 + length M.nodes + length N.nodes ≤ length (application n k M N).nodes
application_longer n k M N =
    let F = fans n (k + 1 + length M.nodes + length N.nodes + length N.wires) M.wires
    (past_brackets (k + 1 + length M.nodes + length N.nodes) N.wires) in
    omega (
      arith,
      length-append (((kind.App, n) ∷ M.nodes) ++ N.nodes)
          (bracket_nodes n N.wires ++ F.nodes),
      length-append M.nodes N.nodes,
    )

applied_low : (n k : ℕ) (o : Option ℕ) (M N : Subnet) → AreLow (n + length M.nodes) M.nodes →
    AreLow (n + 1 + length N.nodes) N.nodes
    → AreLow (n + length (applied n k o M N).nodes) (applied n k o M N).nodes
applied_low n k None M N left right =
    let longer = application_longer n k M N in
    application_low (n + length (application n k M N).nodes) n k M N (omega arith)
    (AreLow-weaker (n + length M.nodes) (n + length (application n k M N).nodes) M.nodes (omega (arith, longer)) left)
    (AreLow-weaker (n + 1 + length N.nodes) (n + length (application n k M N).nodes) N.nodes
    (omega (arith, longer)) right)
applied_low n k (Some y) M N left right =
    let F = fans n (k + 1 + length M.nodes) M.wires ((y, slot_port k 2) ∷ []) in
    let longer = length-append M.nodes F.nodes in
    AreLow-append (n + length (application_to n k y M).nodes) ((kind.App, n) ∷ M.nodes) F.nodes (
      omega arith,
      AreLow-weaker (n + length M.nodes)
          (n + length (application_to n k y M).nodes) M.nodes (omega (arith, longer)) left,
    )
    (fans_low (n + length (application_to n k y M).nodes) n (k + 1 + length M.nodes) M.wires
    ((y, slot_port k 2) ∷ []) (omega arith))

pub part_low : (w : Translation) (t : Tree) (d n k : ℕ) →
    AreLow (n + length (subnet_of w t d n k).nodes) (subnet_of w t d n k).nodes
part_low w (var v) d n k = (omega arith, tt)
part_low w (free f) d n k = (omega arith, tt)
part_low w (lam M) d n k =
    let longer = length-append (subnet_of w M (d + 1) n (k + 1)).nodes
    (erasers (wire_of 0 (subnet_of w M (d + 1) n (k + 1)).wires)) in
    AreLow-append (n + length (subnet_of w (lam M) d n k).nodes)
    ((kind.Lam, n) ∷ (subnet_of w M (d + 1) n (k + 1)).nodes)
    (erasers (wire_of 0 (subnet_of w M (d + 1) n (k + 1)).wires)) (
      omega arith,
      AreLow-weaker (n + length (subnet_of w M (d + 1) n (k + 1)).nodes)
          (n + length (subnet_of w (lam M) d n k).nodes) (subnet_of w M (d + 1) n (k + 1)).nodes
          (omega (arith, longer)) (part_low w M (d + 1) n (k + 1)),
    )
    (erasers_low (n + length (subnet_of w (lam M) d n k).nodes) (wire_of 0 (subnet_of w M (d + 1) n (k + 1)).wires))
part_low w (app M N) d n k =
    applied_low n k (bare_variable w d N) (subnet_of w M d n (k + 1))
    (subnet_of w N d (n + 1) (k + 1 + length (subnet_of w M d n (k + 1)).nodes))
    (part_low w M d n (k + 1)) (part_low w N d (n + 1) (k + 1 + length (subnet_of w M d n (k + 1)).nodes))

-- ---- no index is refused

low_is_good : (m : ℕ) (node : Kind × ℕ) → m ≤ build_top → IsLow m node → is_bad_index build_top node ≡ false
low_is_good m (kind.Lam, i) h low = grind (arith, nat_tests)
low_is_good m (kind.App, i) h low = grind (arith, nat_tests)
low_is_good m (kind.Fan, i) h low = grind (arith, nat_tests)
low_is_good m (kind.Croissant, i) h low = grind (arith, nat_tests)
low_is_good m (kind.Bracket, i) h low = grind (arith, nat_tests)
low_is_good m (kind.Eraser, i) h low = rw low refl

none_bad : (m j : ℕ) (nodes : List (Kind × ℕ)) → m ≤ build_top → AreLow m nodes →
    is_bad_index build_top (get_or nodes j (kind.Eraser, 0)) ≡ false
none_bad m j [] h low = refl
none_bad m zero (node ∷ nodes) h low = low_is_good m node h low.0
none_bad m (suc j) (node ∷ nodes) h low = none_bad m j nodes h low.1

pub good_indexes : (w : Translation) (t : Tree) → length (nodes_of w t) ≤ 200000 →
    NoneOf (BadIndexAt build_top (nodes_of w t))
good_indexes w t h j bad =
    let good = none_bad (0 + length (nodes_of w t)) j (nodes_of w t) (omega arith) (part_low w t 0 0 0) in
    absurd (cc)

not_above : (m i : ℕ) → (nat_lt m i ≡ true → ⊥) → i ≤ m
not_above m i h = elim (nat_lt m i) as
    (λ b. nat_lt m i ≡ b → i ≤ m) [ true ↦ (λ t. absurd (h t)) | false ↦ (λ t. grind (arith, nat_tests, t)) ] refl

-- where no node is refused for its index, none is above the bound
node_is_low : (m : ℕ) (node : Kind × ℕ) → (is_bad_index m node ≡ true → ⊥) → node.1 ≤ m
node_is_low m (kind.Lam, i) h = not_above m i h
node_is_low m (kind.App, i) h = not_above m i h
node_is_low m (kind.Fan, i) h = not_above m i h
node_is_low m (kind.Croissant, i) h = not_above m i h
node_is_low m (kind.Bracket, i) h = not_above m i h
node_is_low m (kind.Eraser, i) h = elim (nat_eq i 0) as
    (λ b. nat_eq i 0 ≡ b → i ≤ m) [
      | true ↦ (λ t. grind (arith, nat_tests, t))
      | false ↦
          (λ t. absurd (h (rw t refl)))
    ] refl

pub top_is_low : (m : ℕ) (nodes : List (Kind × ℕ)) → NoneOf (BadIndexAt m nodes) → top_index_of (all_live nodes) ≤ m
top_is_low m [] h = omega arith
top_is_low m (node ∷ nodes) h = omega (arith, node_is_low m node (h 0), top_is_low m nodes (λ j bad. h (suc j) bad))
