-- A term's part has as many nodes as its size, and its wires are those of its variables.
use Rattle.std.proofs.Common.{◌≡◌, ℕ, suc, ◌≤◌, ◌+◌, ◌-◌, List, [], ◌∷◌, ◌++◌, length, map, filter, true, false, Bool}
use Rattle.std.proofs.Common.{not, ◌||◌, cond, nat_eq, nat_lt, Option, None, Some, is_some, refl, ap, sym, ◌∙◌, arith}
use Rattle.std.proofs.Common.{length-append, zero-add, eq-eqb, append_assoc, append-nil, if◌then◌else◌}
use Rattle.std.proofs.lemmas.Bool.Decides.{nat_tests}
use Rattle.std.proofs.lemmas.List.Folds.{list_any-append}
use Rattle.ol_term.specs.declared.translations.Translation.{Translation}
use Rattle.ol_term.specs.Trees.{Tree, var, free, lam, app}
use Rattle.ol_net.specs.declared.parts.Kind.TheVariants as kind
use Rattle.ol_net.specs.declared.parts.Port.{Port}
use Rattle.ol_translate.specs.Translation.{Subnet, Wires, subnet_of, application, applied, bare_variable, outside}
use Rattle.ol_translate.specs.Translation.{erasers, bracket_nodes, past_brackets, fans, fan_nodes, merged, wire_of}
use Rattle.ol_translate.specs.Translation.{reconnected, slot_port, nodes_of}
use Rattle.ol_translate.specs.Sizes.{is_listed, variables, size_of_argument, size_under, size_of_translation}
use Rattle.ol_translate.proofs.Counts.{times}
use Rattle.ol_translate.proofs.Joints.{few_wires, times-bracketed, HasOnly, bare_part}
use Rattle.ol_translate.proofs.Walks.{length-bracket_nodes}

-- the variables of wires
abbrev pub keys : Wires → List ℕ
keys wires = map (λ (w : ℕ × Port). w.0) wires

length-keys : (wires : Wires) → length (keys wires) ≡ length wires
length-keys [] = refl
length-keys (w ∷ wires) = ap suc (length-keys wires)

keys-append : (xs ys : Wires) → keys (xs ++ ys) ≡ keys xs ++ keys ys
keys-append [] ys = refl
keys-append (x ∷ xs) ys = ap (λ l. x.0 ∷ l) (keys-append xs ys)

keys-bracketed : (b : ℕ) (wires : Wires) → keys (past_brackets b wires) ≡ keys wires
keys-bracketed b [] = refl
keys-bracketed b (w ∷ wires) = ap (λ l. w.0 ∷ l) (keys-bracketed (b + 1) wires)

keys-rewired : (v : ℕ) (p : Port) (wires : Wires) → keys (reconnected v p wires) ≡ keys wires
keys-rewired v p [] = refl
keys-rewired v p (w ∷ wires) =
    elim (nat_eq w.0 v) as (λ b. nat_eq w.0 v ≡ b → keys (reconnected v p (w ∷ wires)) ≡ keys (w ∷ wires)) [
      | true ↦ (λ t. rw t refl)
      | false ↦ (λ t. rw t (ap (λ l. w.0 ∷ l) (keys-rewired v p wires)))
    ] refl

keys-outside : (wires : Wires) → keys (outside wires) ≡ map (λ v. v - 1) (filter (λ v. nat_lt 0 v) (keys wires))
keys-outside [] = refl
keys-outside (w ∷ wires) =
    elim (nat_lt 0 w.0) as (λ b. nat_lt 0 w.0 ≡ b →
    keys (outside (w ∷ wires)) ≡ map (λ v. v - 1) (filter (λ v. nat_lt 0 v) (keys (w ∷ wires)))) [
      | true ↦ (λ t. rw t (ap (λ l. (w.0 - 1) ∷ l) (keys-outside wires)))
      | false ↦ (λ t. rw t (keys-outside wires))
    ] refl

among_keys : (v : ℕ) (wires : Wires) → is_listed v (keys wires) ≡ is_some (wire_of v wires)
among_keys v [] = refl
among_keys v (w ∷ wires) =
    elim (nat_eq w.0 v) as (λ b. nat_eq w.0 v ≡ b → is_listed v (keys (w ∷ wires)) ≡ is_some (wire_of v (w ∷ wires))) [
      | true ↦ (λ t. rw t refl)
      | false ↦ (λ t. rw t (among_keys v wires))
    ] refl

-- ---- an abstraction

length-erasers : (x : Option Port) → length (erasers x) ≡ (if is_some x then 0 else 1)
length-erasers None = refl
length-erasers (Some w) = refl

-- ---- an application

false-or : (a b : Bool) → a ≡ false → a || b ≡ b
false-or false b e = refl
false-or true b e = absurd (cc)

or-false : (a : Bool) → a || false ≡ a
or-false true = refl
or-false false = refl

among_past : (v u : ℕ) (vs : List ℕ) → nat_eq u v ≡ false → is_listed v (vs ++ u ∷ []) ≡ is_listed v vs
among_past v u vs h = list_any-append (λ w. nat_eq w v) vs (u ∷ []) ∙ rw h (or-false (is_listed v vs))

-- f is a test of what stands among the others
filter_past : (f : Bool → Bool) (u : ℕ) (vs : List ℕ) (more : Wires) → times u more ≡ 0
    → filter (λ v. f (is_listed v (vs ++ u ∷ []))) (keys more) ≡ filter (λ v. f (is_listed v vs)) (keys more)
filter_past f u vs [] h = refl
filter_past f u vs (w ∷ more) h =
    elim (nat_eq w.0 u) as (λ b. nat_eq w.0 u ≡ b →
    filter (λ v. f (is_listed v (vs ++ u ∷ []))) (keys (w ∷ more)) ≡ filter
    (λ v. f (is_listed v vs)) (keys (w ∷ more))) [
      | true ↦ (λ t. let some = rw t at h in absurd (omega arith))
      | false ↦ (λ t.
          let apart : nat_eq u w.0 ≡ false = grind (arith, nat_tests, t) in
          let rest = filter_past f u vs more (rw (t, zero-add) at h) in
          let same : is_listed w.0 (vs ++ u ∷ []) ≡ is_listed w.0 vs = among_past w.0 u vs apart in
          ap (λ b. cond (f b) (w.0 ∷ filter (λ v. f (is_listed v (vs ++ u ∷ []))) (keys more))
          (filter (λ v. f (is_listed v (vs ++ u ∷ []))) (keys more))) same
          ∙ ap (λ l. cond (f (is_listed w.0 vs)) (w.0 ∷ l) l) rest)
    ] refl

-- each variable has one wire at most
abbrev Differ : Wires → Type 0
Differ wires = (v : ℕ) → times v wires ≤ 1

differ-head : (w : ℕ × Port) (more : Wires) → Differ (w ∷ more) → times w.0 more ≡ 0
differ-head w more h = let one = rw (eq-eqb w.0 w.0 refl) at (h w.0) in omega arith

differ-tail : (w : ℕ × Port) (more : Wires) → Differ (w ∷ more) → Differ more
differ-tail w more h = λ v. let here = h v in
    let some : times v more ≤ (if nat_eq w.0 v then 1 else 0) + times v more = omega arith in omega arith

merged_keys : (f : ℕ) (w : ℕ × Port) (wires : Wires) (x : Option Port) →
    keys (merged f x w wires) ≡ (if is_some x then keys wires else keys wires ++ w.0 ∷ [])
merged_keys f w wires None = keys-append wires (w ∷ [])
merged_keys f w wires (Some q) = keys-rewired w.0 (slot_port f 0) wires

fan_count : (n : ℕ) (x : Option Port) → length (fan_nodes n x) ≡ (if is_some x then 1 else 0)
fan_count n None = refl
fan_count n (Some p) = refl

keys-fans : (n f : ℕ) (wires more : Wires) → Differ more
    → keys (fans n f wires more).wires ≡ keys wires ++ filter (λ v. not (is_listed v (keys wires))) (keys more)
keys-fans n f wires [] h = sym (append-nil (keys wires))
keys-fans n f wires (w ∷ more) h =
    let f' = f + length (fan_nodes n (wire_of w.0 wires)) in
    let W = merged f (wire_of w.0 wires) w wires in
    let rest : keys (fans n f' W more).wires ≡ keys W ++ filter (λ v. not (is_listed v (keys W)))
    (keys more) = keys-fans n f' W more (differ-tail w more h) in
    let keys_are : keys W ≡ (if is_listed w.0 (keys wires) then keys wires else keys wires ++ w.0 ∷ []) =
    merged_keys f w wires (wire_of w.0 wires)
    ∙ ap (λ b. if b then keys wires else keys wires ++ w.0 ∷ []) (sym (among_keys w.0 wires)) in
    elim (is_listed w.0 (keys wires)) as (λ b. is_listed w.0 (keys wires) ≡ b → keys (fans n f' W more).wires
    ≡ keys wires ++ cond (not b) (w.0 ∷ filter (λ v. not (is_listed v (keys wires))) (keys more))
    (filter (λ v. not (is_listed v (keys wires))) (keys more))) [
      | true ↦ (λ t. let same : keys W ≡ keys wires = rw t at keys_are in
          rest ∙ ap (λ l. l ++ filter (λ v. not (is_listed v l)) (keys more)) same)
      | false ↦ (λ t. let same : keys W ≡ keys wires ++ w.0 ∷ [] = rw t at keys_are in
          rest ∙ ap (λ l. l ++ filter (λ v. not (is_listed v l)) (keys more)) same
          ∙ ap (λ l. (keys wires ++ w.0 ∷ []) ++ l) (filter_past not w.0 (keys wires) more (differ-head w more h))
          ∙ append_assoc (keys wires) (w.0 ∷ []) (filter (λ v. not (is_listed v (keys wires))) (keys more)))
    ] refl

length-fans : (n f : ℕ) (wires more : Wires) → Differ more
    → length (fans n f wires more).nodes ≡ length (filter (λ v. is_listed v (keys wires)) (keys more))
length-fans n f wires [] h = refl
length-fans n f wires (w ∷ more) h =
    let f' = f + length (fan_nodes n (wire_of w.0 wires)) in
    let W = merged f (wire_of w.0 wires) w wires in
    let rest : length (fans n f' W more).nodes ≡ length
    (filter (λ v. is_listed v (keys W)) (keys more)) = length-fans n f' W more (differ-tail w more h) in
    let keys_are : keys W ≡ (if is_listed w.0 (keys wires) then keys wires else keys wires ++ w.0 ∷ []) =
    merged_keys f w wires (wire_of w.0 wires)
    ∙ ap (λ b. if b then keys wires else keys wires ++ w.0 ∷ []) (sym (among_keys w.0 wires)) in
    let one : length (fan_nodes n (wire_of w.0 wires)) ≡ (if is_listed w.0 (keys wires) then 1 else 0) =
    fan_count n (wire_of w.0 wires) ∙ ap (λ b. if b then 1 else 0) (sym (among_keys w.0 wires)) in
    let both = length-append (fan_nodes n (wire_of w.0 wires)) (fans n f' W more).nodes in
    elim (is_listed w.0 (keys wires)) as
    (λ b. is_listed w.0 (keys wires) ≡ b → length (fan_nodes n (wire_of w.0 wires) ++ (fans n f' W more).nodes)
    ≡ length (cond b (w.0 ∷ filter (λ v. is_listed v (keys wires)) (keys more))
    (filter (λ v. is_listed v (keys wires)) (keys more)))) [
      | true ↦ (λ t. let same : keys W ≡ keys wires = rw t at keys_are in
          let single : length (fan_nodes n (wire_of w.0 wires)) ≡ 1 = rw t at one in
          let others : length (fans n f' W more).nodes ≡ length (filter (λ v. is_listed v (keys wires)) (keys more)) =
          rest ∙ ap (λ l. length (filter (λ v. is_listed v l) (keys more))) same in
          omega (arith, both, single, others))
      | false ↦ (λ t. let same : keys W ≡ keys wires ++ w.0 ∷ [] = rw t at keys_are in
          let no_fan : length (fan_nodes n (wire_of w.0 wires)) ≡ 0 = rw t at one in
          let others : length (fans n f' W more).nodes ≡ length (filter (λ v. is_listed v (keys wires)) (keys more)) =
          rest ∙ ap (λ l. length (filter (λ v. is_listed v l) (keys more))) same
          ∙ ap length (filter_past (λ b. b) w.0 (keys wires) more (differ-head w more h)) in
          omega (arith, both, no_fan, others))
    ] refl

differ-bracketed : (b : ℕ) (wires : Wires) → Differ wires → Differ (past_brackets b wires)
differ-bracketed b wires h = λ v. let few = h v in omega (arith, times-bracketed v b wires)

keys-application : (n k : ℕ) (M N : Subnet) → Differ N.wires
    → keys (application n k M N).wires ≡ keys M.wires ++ filter (λ v. not (is_listed v (keys M.wires))) (keys N.wires)
keys-application n k M N h =
    let b = k + 1 + length M.nodes + length N.nodes in
    keys-fans n (k + 1 + length M.nodes + length N.nodes + length N.wires) M.wires
    (past_brackets (k + 1 + length M.nodes + length N.nodes) N.wires)
    (differ-bracketed (k + 1 + length M.nodes + length N.nodes) N.wires h)
    ∙ ap (λ l. keys M.wires ++ filter (λ v. not (is_listed v (keys M.wires))) l)
    (keys-bracketed (k + 1 + length M.nodes + length N.nodes) N.wires)

length-application : (n k : ℕ) (M N : Subnet) → Differ N.wires
    → length (application n k M N).nodes ≡ 1 + length M.nodes + length N.nodes + length
    (keys N.wires) + length (filter (λ v. is_listed v (keys M.wires)) (keys N.wires))
length-application n k M N h =
    let F = fans n (k + 1 + length M.nodes + length N.nodes + length N.wires) M.wires
    (past_brackets (k + 1 + length M.nodes + length N.nodes) N.wires) in
    let fan_nodes : length F.nodes ≡ length (filter (λ v. is_listed v (keys M.wires)) (keys N.wires)) =
    length-fans n (k + 1 + length M.nodes + length N.nodes + length N.wires) M.wires
    (past_brackets (k + 1 + length M.nodes + length N.nodes) N.wires)
    (differ-bracketed (k + 1 + length M.nodes + length N.nodes) N.wires h)
    ∙ ap (λ l. length (filter (λ v. is_listed v (keys M.wires)) l))
    (keys-bracketed (k + 1 + length M.nodes + length N.nodes) N.wires) in
    omega (
      arith,
      fan_nodes,
      length-append (((kind.App, n) ∷ M.nodes) ++ N.nodes) (bracket_nodes n N.wires ++ F.nodes),
      length-append M.nodes N.nodes,
      length-append (bracket_nodes n N.wires) F.nodes,
      length-bracket_nodes n N.wires,
      length-keys N.wires,
    )

-- ---- an application to a variable

differ-single : (v : ℕ) (p : Port) → Differ ((v, p) ∷ [])
differ-single v p u = elim (nat_eq v u) as
    (λ b. (if b then 1 else 0) + 0 ≤ 1) [ true ↦ omega arith | false ↦ omega arith ]

keys-applied : (n k : ℕ) (o : Option ℕ) (M N : Subnet) → HasOnly o N.wires → Differ N.wires
    → keys (applied n k o M N).wires ≡ keys M.wires ++ filter (λ v. not (is_listed v (keys M.wires))) (keys N.wires)
keys-applied n k None M N only h = keys-application n k M N h
keys-applied n k (Some y) M N (q, only) h =
    keys-fans n (k + 1 + length M.nodes) M.wires ((y, slot_port k 2) ∷ []) (differ-single y (slot_port k 2))
    ∙ sym (ap (λ (l : Wires). keys M.wires ++ filter (λ v. not (is_listed v (keys M.wires))) (keys l)) only)

length-single : (y : ℕ) (vs : List ℕ) →
    length (filter (λ v. is_listed v vs) (y ∷ [])) ≡ (if is_listed y vs then 1 else 0)
length-single y vs = elim (is_listed y vs) as
    (λ b. length (cond b (y ∷ []) []) ≡ (if b then 1 else 0)) [ true ↦ refl | false ↦ refl ]

length-applied : (n k : ℕ) (o : Option ℕ) (M N : Subnet) → Differ N.wires
    → length (applied n k o M N).nodes ≡ 1 + length M.nodes + size_of_argument o (length N.nodes)
    (keys M.wires) (keys N.wires)
length-applied n k None M N h = omega (arith, length-application n k M N h)
length-applied n k (Some y) M N h =
    let F = fans n (k + 1 + length M.nodes) M.wires ((y, slot_port k 2) ∷ []) in
    omega (
      arith,
      length-append M.nodes F.nodes,
      length-fans n (k + 1 + length M.nodes) M.wires ((y, slot_port k 2) ∷ []) (differ-single y (slot_port k 2)),
      length-single y (keys M.wires),
    )

-- ---- terms

pub wires_of_variables : (w : Translation) (t : Tree) (d n k : ℕ) → keys (subnet_of w t d n k).wires ≡ variables d t
wires_of_variables w (var v) d n k = refl
wires_of_variables w (free f) d n k = refl
wires_of_variables w (lam M) d n k =
    keys-outside (subnet_of w M (d + 1) n (k + 1)).wires
    ∙ ap (λ l. map (λ v. v - 1) (filter (λ v. nat_lt 0 v) l)) (wires_of_variables w M (d + 1) n (k + 1))
wires_of_variables w (app M N) d n k =
    let k' = k + 1 + length (subnet_of w M d n (k + 1)).nodes in
    keys-applied n k (bare_variable w d N) (subnet_of w M d n (k + 1))
    (subnet_of w N d (n + 1) (k + 1 + length (subnet_of w M d n (k + 1)).nodes))
    (bare_part w N d (n + 1) (k + 1 + length (subnet_of w M d n (k + 1)).nodes))
    (λ v. few_wires w v N d (n + 1) (k + 1 + length (subnet_of w M d n (k + 1)).nodes))
    ∙ ap (λ l. l ++ filter (λ v. not (is_listed v l)) (keys (subnet_of w N d (n + 1) k').wires))
    (wires_of_variables w M d n (k + 1))
    ∙ ap (λ l. variables d M ++ filter (λ v. not (is_listed v (variables d M))) l) (wires_of_variables w N d (n + 1) k')

pub size_of_part : (w : Translation) (t : Tree) (d n k : ℕ) → length (subnet_of w t d n k).nodes ≡ size_under w d t
size_of_part w (var v) d n k = refl
size_of_part w (free f) d n k = refl
size_of_part w (lam M) d n k =
    let size = size_of_part w M (d + 1) n (k + 1) in
    let bound : length (erasers (wire_of 0 (subnet_of w M (d + 1) n (k + 1)).wires)) ≡
    (if is_listed 0 (variables (d + 1) M) then 0 else 1) =
    length-erasers (wire_of 0 (subnet_of w M (d + 1) n (k + 1)).wires)
    ∙ ap (λ b. if b then 0 else 1) (sym (among_keys 0 (subnet_of w M (d + 1) n (k + 1)).wires))
    ∙ ap (λ l. if is_listed 0 l then 0 else 1) (wires_of_variables w M (d + 1) n (k + 1)) in
    omega (
      arith,
      size,
      bound,
      length-append (subnet_of w M (d + 1) n (k + 1)).nodes
          (erasers (wire_of 0 (subnet_of w M (d + 1) n (k + 1)).wires)),
    )
size_of_part w (app M N) d n k =
    let o = bare_variable w d N in
    let k' = k + 1 + length (subnet_of w M d n (k + 1)).nodes in
    let M' = subnet_of w M d n (k + 1) in
    let N' = subnet_of w N d (n + 1) k' in
    let sizes = length-applied n k o M' N' (λ v. few_wires w v N d (n + 1) k') in
    let left = size_of_part w M d n (k + 1) in
    let argument : size_of_argument o (length N'.nodes) (keys M'.wires)
    (keys N'.wires) ≡ size_of_argument o (size_under w d N) (variables d M) (variables d N) =
    ap (λ m. size_of_argument o m (keys M'.wires) (keys N'.wires)) (size_of_part w N d (n + 1) k')
    ∙ ap (λ l. size_of_argument o (size_under w d N) l (keys N'.wires)) (wires_of_variables w M d n (k + 1))
    ∙ ap (λ l. size_of_argument o (size_under w d N) (variables d M) l) (wires_of_variables w N d (n + 1) k') in
    omega (arith, sizes, left, argument)

pub size_of_nodes : (w : Translation) (t : Tree) → length (nodes_of w t) ≡ size_of_translation w t
size_of_nodes w t = size_of_part w t 0 0 0
