-- Each port of a translated term stands in one link.
use Rattle.std.proofs.Common.{◌≡◌, ℕ, zero, suc, ◌≤◌, ◌+◌, ◌-◌, List, [], ◌∷◌, ◌++◌, length, true}
use Rattle.std.proofs.Common.{false, nat_eq, nat_lt, Option, None, Some, refl, ap, ◌∙◌, arith}
use Rattle.std.proofs.Common.{subst, length-append, zero-add, ne_eqb, eq-eqb, if◌then◌else◌}
use Rattle.std.proofs.lemmas.Bool.{and_parts}
use Rattle.std.proofs.lemmas.Bool.Decides.{nat_tests}
use Rattle.ol_term.specs.declared.translations.Translation.{Translation}
use Rattle.ol_term.specs.declared.translations.Translation.TheVariants.{One, Two}
use Rattle.ol_term.specs.Trees.{Tree, var, free, lam, app, is_below, is_named_below, has_name}
use Rattle.ol_net.specs.declared.parts.Kind.{Kind}
use Rattle.ol_net.specs.declared.parts.Kind.TheVariants as kind
use Rattle.ol_net.specs.declared.parts.Port.{Port}
use Rattle.ol_net.specs.declared.parts.Port.TheVariants.{Free}
use Rattle.ol_translate.specs.Translation.{Subnet, Wires, subnet_of, abstraction, application, application_to, applied}
use Rattle.ol_translate.specs.Translation.{bare_variable, outside, erasers, bound_port, bracket_nodes, bracket_links}
use Rattle.ol_translate.specs.Translation.{past_brackets, fans, fan_nodes, fan_links, merged, wire_of, reconnected}
use Rattle.ol_translate.specs.Translation.{slot_port, name_links, nodes_of, links_of}
use Rattle.ol_translate.proofs.Counts.{hit, uses, held, free_ends, slots, times}
use Rattle.ol_translate.proofs.Walks.{length-bracket_nodes}

uses-append : (p : Port) (xs ys : List (Port × Port)) → uses p (xs ++ ys) ≡ uses p xs + uses p ys
uses-append p [] ys = omega arith
uses-append p (x ∷ xs) ys = omega (arith, uses-append p xs ys)

held-append : (p : Port) (xs ys : List (ℕ × Port)) → held p (xs ++ ys) ≡ held p xs + held p ys
held-append p [] ys = omega arith
held-append p (x ∷ xs) ys = omega (arith, held-append p xs ys)

pub times-append : (v : ℕ) (xs ys : List (ℕ × Port)) → times v (xs ++ ys) ≡ times v xs + times v ys
times-append v [] ys = omega arith
times-append v (x ∷ xs) ys = omega (arith, times-append v xs ys)

slots-append : (p : Port) (k j : ℕ) (xs ys : List (Kind × ℕ)) → j ≡ k + length xs →
    slots p k (xs ++ ys) ≡ slots p k xs + slots p j ys
slots-append p k j [] ys e = let same : j ≡ k = omega arith in rw same (omega arith)
slots-append p k j (x ∷ xs) ys e = let rest = slots-append p (k + 1) j xs ys (omega arith) in omega (arith, rest)

suc_is_0 : (v : ℕ) → nat_eq (suc v) 0 ≡ false
suc_is_0 v = ne_eqb (suc v) 0 (λ e. omega arith)

zero_is_suc : (v : ℕ) → nat_eq 0 (suc v) ≡ false
zero_is_suc v = ne_eqb 0 (suc v) (λ e. omega arith)

suc_is_suc : (u v : ℕ) → nat_eq (suc u) (suc v) ≡ nat_eq u v
suc_is_suc u v = grind (arith, nat_tests)

positive : (v : ℕ) → nat_lt 0 (suc v) ≡ true
positive v = grind (arith, nat_tests)

less_one : (v : ℕ) → suc v - 1 ≡ v
less_one v = omega arith

-- ---- an abstraction

held-outside : (p : Port) (wires : List (ℕ × Port)) → times 0 wires ≡ 0 → held p (outside wires) ≡ held p wires
held-outside p [] h = refl
held-outside p ((zero, q) ∷ wires) h = absurd (omega arith)
held-outside p ((suc v, q) ∷ wires) h = rw (positive v)
    (ap (λ n. hit p q + n) (held-outside p wires (rw (suc_is_0 v, zero-add) at h)))

bound_balance : (p : Port) (e : ℕ) (wires : List (ℕ × Port)) → times 0 wires ≤ 1
    → held p (outside wires) + hit p (bound_port (wire_of 0 wires) e) ≡ held p wires + slots p e
    (erasers (wire_of 0 wires))
bound_balance p e [] h = omega arith
bound_balance p e ((zero, q) ∷ wires) h = let rest = held-outside p wires (omega arith) in omega arith
bound_balance p e ((suc v, q) ∷ wires) h =
    let few : times 0 wires ≤ 1 = rw (suc_is_0 v, zero-add) at h in
    let rest = bound_balance p e wires few in
    rw (positive v, suc_is_0 v) (omega arith)

times-outside : (v : ℕ) (wires : List (ℕ × Port)) → times v (outside wires) ≡ times (suc v) wires
times-outside v [] = refl
times-outside v ((zero, q) ∷ wires) = rw (zero_is_suc v, zero-add) (times-outside v wires)
times-outside v ((suc u, q) ∷ wires) = rw (positive u, suc_is_suc u v, less_one u)
    (ap (λ n. (if nat_eq u v then 1 else 0) + n) (times-outside v wires))

-- ---- an application

brackets_balance : (p : Port) (n b : ℕ) (wires : List (ℕ × Port))
    → uses p (bracket_links b wires) + held p (past_brackets b wires) ≡ held p wires + slots p b (bracket_nodes n wires)
brackets_balance p n b [] = omega arith
brackets_balance p n b (w ∷ wires) = let rest = brackets_balance p n (b + 1) wires in omega arith

pub times-bracketed : (v b : ℕ) (wires : List (ℕ × Port)) → times v (past_brackets b wires) ≡ times v wires
times-bracketed v b [] = refl
times-bracketed v b (w ∷ wires) = ap (λ n. (if nat_eq w.0 v then 1 else 0) + n) (times-bracketed v (b + 1) wires)

rewired_balance : (p : Port) (v : ℕ) (r q : Port) (wires : List (ℕ × Port)) → wire_of v wires ≡ Some q
    → held p (reconnected v r wires) + hit p q ≡ held p wires + hit p r
rewired_balance p v r q [] e = absurd (cc)
rewired_balance p v r q (w ∷ wires) e =
    elim (nat_eq w.0 v) as (λ b. nat_eq w.0 v ≡ b →
    held p (reconnected v r (w ∷ wires)) + hit p q ≡ held p (w ∷ wires) + hit p r) [
      | true ↦ (λ t. let first = rw t at e in let same : hit p w.1 ≡ hit p q = cc in rw t (omega arith))
      | false ↦ (λ t. let later = rw t at e in let rest = rewired_balance p v r q wires later in rw t (omega arith))
    ] refl

times-rewired : (u v : ℕ) (r : Port) (wires : List (ℕ × Port)) → times u (reconnected v r wires) ≡ times u wires
times-rewired u v r [] = refl
times-rewired u v r (w ∷ wires) =
    elim (nat_eq w.0 v) as (λ b. nat_eq w.0 v ≡ b → times u (reconnected v r (w ∷ wires)) ≡ times u (w ∷ wires)) [
      | true ↦ (λ t. rw t refl)
      | false ↦ (λ t. rw t (ap (λ n. (if nat_eq w.0 u then 1 else 0) + n) (times-rewired u v r wires)))
    ] refl

times-absent : (v : ℕ) (wires : List (ℕ × Port)) → wire_of v wires ≡ None → times v wires ≡ 0
times-absent v [] e = refl
times-absent v (w ∷ wires) e =
    elim (nat_eq w.0 v) as (λ b. nat_eq w.0 v ≡ b → times v (w ∷ wires) ≡ 0) [
      | true ↦ (λ t. let found = rw t at e in absurd (cc))
      | false ↦ (λ t. let later = rw t at e in rw (t, zero-add) (times-absent v wires later))
    ] refl

merged_balance : (p : Port) (n f : ℕ) (w : ℕ × Port) (wires : List (ℕ × Port)) (x : Option Port) → wire_of w.0 wires ≡ x
    → held p (merged f x w wires) + uses p (fan_links f x w.1) ≡ held p wires + hit p w.1 + slots p f (fan_nodes n x)
merged_balance p n f w wires None e = omega (arith, held-append p wires (w ∷ []))
merged_balance p n f w wires (Some q) e = let moved = rewired_balance p w.0 (slot_port f 0) q wires e in omega arith

fans_balance : (p : Port) (n f : ℕ) (wires more : List (ℕ × Port))
    → uses p (fans n f wires more).links + held p
    (fans n f wires more).wires ≡ held p wires + held p more + slots p f (fans n f wires more).nodes
fans_balance p n f wires [] = omega arith
fans_balance p n f wires (w ∷ more) =
    let x = wire_of w.0 wires in
    let f' = f + length (fan_nodes n (wire_of w.0 wires)) in
    let rest = fans_balance p n f' (merged f (wire_of w.0 wires) w wires) more in
    let step = merged_balance p n f w wires (wire_of w.0 wires) refl in
    let links = uses-append p (fan_links f (wire_of w.0 wires) w.1)
    (fans n f' (merged f (wire_of w.0 wires) w wires) more).links in
    let nodes = slots-append p f f' (fan_nodes n (wire_of w.0 wires))
    (fans n f' (merged f (wire_of w.0 wires) w wires) more).nodes refl in
    omega (arith, rest, step, links, nodes)

times-merged : (v f : ℕ) (w : ℕ × Port) (wires : List (ℕ × Port)) (x : Option Port) →
    wire_of w.0 wires ≡ x → ((u : ℕ) → times u wires ≤ 1) → times v (merged f x w wires) ≤ 1
times-merged v f w wires None e few =
    let rest = few v in
    let one = times-append v wires (w ∷ []) in
    elim (nat_eq w.0 v) as (λ b. nat_eq w.0 v ≡ b → times v (wires ++ w ∷ []) ≤ 1) [
      | true ↦ (λ t. let same : w.0 ≡ v = grind (arith, nat_tests, t) in
          let none : times v wires ≡ 0 = subst (λ u. times u wires ≡ 0) same
          (times-absent w.0 wires e) in rw (one, t) (omega arith))
      | false ↦ (λ t. rw (one, t) (omega arith))
    ] refl
times-merged v f w wires (Some q) e few = let rest = few v in omega (arith, times-rewired v w.0 (slot_port f 0) wires)

times-fans : (v n f : ℕ) (wires more : List (ℕ × Port)) → ((u : ℕ) → times u wires ≤ 1) →
    times v (fans n f wires more).wires ≤ 1
times-fans v n f wires [] few = few v
times-fans v n f wires (w ∷ more) few =
    times-fans v n (f + length (fan_nodes n (wire_of w.0 wires))) (merged f (wire_of w.0 wires) w wires) more
    (λ u. times-merged u f w wires (wire_of w.0 wires) refl few)

-- ---- the balance of a part

abbrev pub Balanced : Port → ℕ → Subnet → Type 0
Balanced p k P = uses p P.links + (hit p P.root + held p P.wires) ≡ slots p k P.nodes

abstraction_balance : (p : Port) (n k : ℕ) (M : Subnet) → times 0 M.wires ≤ 1 →
    Balanced p (k + 1) M → Balanced p k (abstraction n k M)
abstraction_balance p n k M few h =
    let e = k + 1 + length M.nodes in
    let x = wire_of 0 M.wires in
    let bound = bound_balance p (k + 1 + length M.nodes) M.wires few in
    let links = uses-append p M.links ((slot_port k 1, M.root) ∷
    (slot_port k 2, bound_port (wire_of 0 M.wires) (k + 1 + length M.nodes)) ∷ []) in
    let nodes = slots-append p (k + 1) (k + 1 + length M.nodes) M.nodes (erasers (wire_of 0 M.wires)) refl in
    omega (arith, bound, links, nodes, h)

application_balance : (p : Port) (n k : ℕ) (M N : Subnet) → Balanced p (k + 1) M →
    Balanced p (k + 1 + length M.nodes) N → Balanced p k (application n k M N)
application_balance p n k M N hm hn =
    let b : ℕ = k + 1 + length M.nodes + length N.nodes in
    let B = past_brackets (k + 1 + length M.nodes + length N.nodes) N.wires in
    let F = fans n (k + 1 + length M.nodes + length N.nodes + length N.wires) M.wires
    (past_brackets (k + 1 + length M.nodes + length N.nodes) N.wires) in
    let two : List (Port × Port) = (slot_port k 0, M.root) ∷ (slot_port k 2, N.root) ∷ [] in
    let bl = bracket_links (k + 1 + length M.nodes + length N.nodes) N.wires in
    let links1 = uses-append p (M.links ++ N.links) (two ++ (bl ++ F.links)) in
    let links2 = uses-append p M.links N.links in
    let links3 = uses-append p bl F.links in
    let nodes1 = slots-append p k (k + 1 + length M.nodes + length N.nodes)
    (((kind.App, n) ∷ M.nodes) ++ N.nodes) (bracket_nodes n N.wires ++ F.nodes)
    (omega (arith, length-append M.nodes N.nodes)) in
    let nodes2 = slots-append p (k + 1) (k + 1 + length M.nodes) M.nodes N.nodes refl in
    let nodes3 = slots-append p (k + 1 + length M.nodes + length N.nodes)
    (k + 1 + length M.nodes + length N.nodes + length N.wires) (bracket_nodes n N.wires) F.nodes
    (omega (arith, length-bracket_nodes n N.wires)) in
    let bs = brackets_balance p n (k + 1 + length M.nodes + length N.nodes) N.wires in
    let fs = fans_balance p n (k + 1 + length M.nodes + length N.nodes + length N.wires) M.wires
    (past_brackets (k + 1 + length M.nodes + length N.nodes) N.wires) in
    omega (arith, links1, links2, links3, nodes1, nodes2, nodes3, bs, fs, hm, hn)

application_to_balance : (p : Port) (n k y : ℕ) (M : Subnet) → Balanced p (k + 1) M →
    Balanced p k (application_to n k y M)
application_to_balance p n k y M hm =
    let F = fans n (k + 1 + length M.nodes) M.wires ((y, slot_port k 2) ∷ []) in
    let links = uses-append p M.links ((slot_port k 0, M.root) ∷ F.links) in
    let nodes = slots-append p (k + 1) (k + 1 + length M.nodes) M.nodes F.nodes refl in
    let fs = fans_balance p n (k + 1 + length M.nodes) M.wires ((y, slot_port k 2) ∷ []) in
    omega (arith, links, nodes, fs, hm)

applied_balance : (p : Port) (n k : ℕ) (o : Option ℕ) (M N : Subnet) → Balanced p (k + 1) M →
    Balanced p (k + 1 + length M.nodes) N → Balanced p k (applied n k o M N)
applied_balance p n k None M N hm hn = application_balance p n k M N hm hn
applied_balance p n k (Some y) M N hm hn = application_to_balance p n k y M hm

application_few : (v n k : ℕ) (M N : Subnet) → ((u : ℕ) → times u M.wires ≤ 1) → times v (application n k M N).wires ≤ 1
application_few v n k M N few =
    times-fans v n (k + 1 + length M.nodes + length N.nodes + length N.wires) M.wires
    (past_brackets (k + 1 + length M.nodes + length N.nodes) N.wires) few

applied_few : (v n k : ℕ) (o : Option ℕ) (M N : Subnet) → ((u : ℕ) → times u M.wires ≤ 1) →
    times v (applied n k o M N).wires ≤ 1
applied_few v n k None M N few = application_few v n k M N few
applied_few v n k (Some y) M N few = times-fans v n (k + 1 + length M.nodes) M.wires ((y, slot_port k 2) ∷ []) few

-- where an argument is a variable, its own part would have this variable's wire alone
abbrev pub HasOnly : Option ℕ → Wires → Type 0
HasOnly None wires = Unit {0}
HasOnly (Some y) wires = (q : Port) × (wires ≡ (y, q) ∷ [])

pub bare_part : (w : Translation) (N : Tree) (d n k : ℕ) → HasOnly (bare_variable w d N) (subnet_of w N d n k).wires
bare_part One N d n k = tt
bare_part Two (var v) d n k = (slot_port k 0, refl)
bare_part Two (free f) d n k = (slot_port k 0, refl)
bare_part Two (lam M) d n k = tt
bare_part Two (app M N) d n k = tt

-- ---- terms

pub few_wires : (w : Translation) (v : ℕ) (t : Tree) (d n k : ℕ) → times v (subnet_of w t d n k).wires ≤ 1
few_wires w v (var u) d n k = elim (nat_eq u v) as
    (λ b. (if b then 1 else 0) + 0 ≤ 1) [ true ↦ omega arith | false ↦ omega arith ]
few_wires w v (free f) d n k = elim (nat_eq (d + f) v) as
    (λ b. (if b then 1 else 0) + 0 ≤ 1) [ true ↦ omega arith | false ↦ omega arith ]
few_wires w v (lam M) d n k = omega (
  arith,
  times-outside v (subnet_of w M (d + 1) n (k + 1)).wires,
  few_wires w (suc v) M (d + 1) n (k + 1),
)
few_wires w v (app M N) d n k =
    applied_few v n k (bare_variable w d N) (subnet_of w M d n (k + 1))
    (subnet_of w N d (n + 1) (k + 1 + length (subnet_of w M d n (k + 1)).nodes)) (λ u. few_wires w u M d n (k + 1))

pub part_balance : (w : Translation) (p : Port) (t : Tree) (d n k : ℕ) → Balanced p k (subnet_of w t d n k)
part_balance w p (var v) d n k = omega arith
part_balance w p (free f) d n k = omega arith
part_balance w p (lam M) d n k = abstraction_balance p n k (subnet_of w M (d + 1) n (k + 1))
    (few_wires w 0 M (d + 1) n (k + 1)) (part_balance w p M (d + 1) n (k + 1))
part_balance w p (app M N) d n k =
    applied_balance p n k (bare_variable w d N) (subnet_of w M d n (k + 1))
    (subnet_of w N d (n + 1) (k + 1 + length (subnet_of w M d n (k + 1)).nodes))
    (part_balance w p M d n (k + 1)) (part_balance w p N d (n + 1) (k + 1 + length (subnet_of w M d n (k + 1)).nodes))

-- ---- a variable that is no abstraction's and no name has no wire

none-merged : (v f : ℕ) (w : ℕ × Port) (wires more : List (ℕ × Port)) (x : Option Port) →
    times v wires ≡ 0 → times v (w ∷ more) ≡ 0 → times v (merged f x w wires) ≡ 0
none-merged v f w wires more None h e = omega (arith, times-append v wires (w ∷ []))
none-merged v f w wires more (Some q) h e = times-rewired v w.0 (slot_port f 0) wires ∙ h

none-fans : (v n f : ℕ) (wires more : List (ℕ × Port)) → times v wires ≡ 0 → times v more ≡ 0 →
    times v (fans n f wires more).wires ≡ 0
none-fans v n f wires [] h e = h
none-fans v n f wires (w ∷ more) h e =
    none-fans v n (f + length (fan_nodes n (wire_of w.0 wires))) (merged f (wire_of w.0 wires) w wires) more
    (none-merged v f w wires more (wire_of w.0 wires) h e) (omega arith)

application_none : (v n k : ℕ) (M N : Subnet) → times v M.wires ≡ 0 → times v N.wires ≡ 0 →
    times v (application n k M N).wires ≡ 0
application_none v n k M N h e =
    none-fans v n (k + 1 + length M.nodes + length N.nodes + length N.wires) M.wires
    (past_brackets (k + 1 + length M.nodes + length N.nodes) N.wires) h
    (times-bracketed v (k + 1 + length M.nodes + length N.nodes) N.wires ∙ e)

applied_none : (v n k : ℕ) (o : Option ℕ) (M N : Subnet) → HasOnly o N.wires → times v M.wires ≡ 0 →
    times v N.wires ≡ 0 → times v (applied n k o M N).wires ≡ 0
applied_none v n k None M N only h e = application_none v n k M N h e
applied_none v n k (Some y) M N (q, only) h e =
    let own : times v ((y, q) ∷ []) ≡ 0 = subst (λ l. times v l ≡ 0) only e in
    none-fans v n (k + 1 + length M.nodes) M.wires ((y, slot_port k 2) ∷ []) h own

pub none_past : (w : Translation) (v m : ℕ) (t : Tree) (d n k : ℕ) → is_below d t ≡ true →
    is_named_below m t ≡ true → d + m ≤ v → times v (subnet_of w t d n k).wires ≡ 0
none_past w v m (var u) d n k h j e = let other : nat_eq u v ≡ false = grind (arith, nat_tests, h) in rw other refl
none_past w v m (free f) d n k h j e = let other : nat_eq (d + f) v ≡ false = grind
    (arith, nat_tests, j) in rw other refl
none_past w v m (lam M) d n k h j e = times-outside v (subnet_of w M (d + 1) n (k + 1)).wires
    ∙ none_past w (suc v) m M (d + 1) n (k + 1) h j (omega arith)
none_past w v m (app M N) d n k h j e =
    let bound = and_parts (is_below d M) (is_below d N) h in
    let named = and_parts (is_named_below m M) (is_named_below m N) j in
    applied_none v n k (bare_variable w d N) (subnet_of w M d n (k + 1))
    (subnet_of w N d (n + 1) (k + 1 + length (subnet_of w M d n (k + 1)).nodes))
    (bare_part w N d (n + 1) (k + 1 + length (subnet_of w M d n (k + 1)).nodes))
    (none_past w v m M d n (k + 1) bound.0 named.0 e)
    (none_past w v m N d (n + 1) (k + 1 + length (subnet_of w M d n (k + 1)).nodes) bound.1 named.1 e)

-- ---- a name that occurs has a wire

kept-merged : (v f : ℕ) (w : ℕ × Port) (wires : List (ℕ × Port)) (x : Option Port) →
    times v wires ≤ times v (merged f x w wires)
kept-merged v f w wires None = omega (arith, times-append v wires (w ∷ []))
kept-merged v f w wires (Some q) = omega (arith, times-rewired v w.0 (slot_port f 0) wires)

kept-fans : (v n f : ℕ) (wires more : List (ℕ × Port)) → times v wires ≤ times v (fans n f wires more).wires
kept-fans v n f wires [] = omega arith
kept-fans v n f wires (w ∷ more) =
    omega (
      arith,
      kept-merged v f w wires (wire_of w.0 wires),
      kept-fans v n (f + length (fan_nodes n (wire_of w.0 wires))) (merged f (wire_of w.0 wires) w wires) more,
    )

times-present : (v : ℕ) (wires : List (ℕ × Port)) (q : Port) → wire_of v wires ≡ Some q → 1 ≤ times v wires
times-present v [] q e = absurd (cc)
times-present v (w ∷ wires) q e =
    elim (nat_eq w.0 v) as (λ b. nat_eq w.0 v ≡ b → 1 ≤ times v (w ∷ wires)) [
      | true ↦ (λ t. rw t (omega arith))
      | false ↦ (λ t. let later = rw t at e in rw t (omega (arith, times-present v wires q later)))
    ] refl

own-merged : (f : ℕ) (w : ℕ × Port) (wires : List (ℕ × Port)) (x : Option Port) →
    wire_of w.0 wires ≡ x → 1 ≤ times w.0 (merged f x w wires)
own-merged f w wires None e =
    let one : times w.0 (w ∷ []) ≡ 1 = rw (eq-eqb w.0 w.0 refl) (omega arith) in
    omega (arith, times-append w.0 wires (w ∷ []))
own-merged f w wires (Some q) e = omega
    (arith, times-rewired w.0 w.0 (slot_port f 0) wires, times-present w.0 wires q e)

more-fans : (v n f : ℕ) (wires more : List (ℕ × Port)) → 1 ≤ times v more → 1 ≤ times v (fans n f wires more).wires
more-fans v n f wires [] h = absurd (omega arith)
more-fans v n f wires (w ∷ more) h =
    let f' = f + length (fan_nodes n (wire_of w.0 wires)) in
    elim (nat_eq w.0 v) as (λ b. nat_eq w.0 v ≡ b → 1 ≤ times v (fans n f wires (w ∷ more)).wires) [
      | true ↦ (λ t. let same : w.0 ≡ v = grind (arith, nat_tests, t) in
          let here : 1 ≤ times v (merged f (wire_of w.0 wires) w wires) =
          subst (λ u. 1 ≤ times u (merged f (wire_of w.0 wires) w wires)) same
          (own-merged f w wires (wire_of w.0 wires) refl) in
          omega (arith, here, kept-fans v n f' (merged f (wire_of w.0 wires) w wires) more))
      | false ↦ (λ t. let later : 1 ≤ times v more = rw (t, zero-add) at h in
          more-fans v n f' (merged f (wire_of w.0 wires) w wires) more later)
    ] refl

applied_kept : (v n k : ℕ) (o : Option ℕ) (M N : Subnet) → 1 ≤ times v M.wires → 1 ≤ times v (applied n k o M N).wires
applied_kept v n k None M N h =
    omega (
      arith,
      h,
      kept-fans v n (k + 1 + length M.nodes + length N.nodes + length N.wires)
          M.wires (past_brackets (k + 1 + length M.nodes + length N.nodes) N.wires),
    )
applied_kept v n k (Some y) M N h = omega
    (arith, h, kept-fans v n (k + 1 + length M.nodes) M.wires ((y, slot_port k 2) ∷ []))

applied_more : (v n k : ℕ) (o : Option ℕ) (M N : Subnet) → HasOnly o N.wires → 1 ≤ times v N.wires →
    1 ≤ times v (applied n k o M N).wires
applied_more v n k None M N only h =
    more-fans v n (k + 1 + length M.nodes + length N.nodes + length N.wires) M.wires
    (past_brackets (k + 1 + length M.nodes + length N.nodes) N.wires)
    (omega (arith, h, times-bracketed v (k + 1 + length M.nodes + length N.nodes) N.wires))
applied_more v n k (Some y) M N (q, only) h =
    let own : 1 ≤ times v ((y, q) ∷ []) = subst (λ l. 1 ≤ times v l) only h in
    more-fans v n (k + 1 + length M.nodes) M.wires ((y, slot_port k 2) ∷ []) own

pub name_has_wire : (w : Translation) (f : ℕ) (t : Tree) (d n k : ℕ) → has_name f t ≡ true →
    1 ≤ times (d + f) (subnet_of w t d n k).wires
name_has_wire w f (var u) d n k h = absurd (cc)
name_has_wire w f (free g) d n k h = let same : nat_eq (d + g) (d + f) ≡ true = grind
    (arith, nat_tests, h) in rw same (omega arith)
name_has_wire w f (lam M) d n k h =
    let rest = name_has_wire w f M (d + 1) n (k + 1) h in
    let place : d + 1 + f ≡ suc (d + f) = omega arith in
    let here : 1 ≤ times (suc (d + f)) (subnet_of w M (d + 1) n (k + 1)).wires = rw place at rest in
    omega (arith, here, times-outside (d + f) (subnet_of w M (d + 1) n (k + 1)).wires)
name_has_wire w f (app M N) d n k h =
    let k' = k + 1 + length (subnet_of w M d n (k + 1)).nodes in
    let M' = subnet_of w M d n (k + 1) in
    let N' = subnet_of w N d (n + 1) (k + 1 + length (subnet_of w M d n (k + 1)).nodes) in
    elim (has_name f M) as (λ b. has_name f M ≡ b → 1 ≤ times (d + f) (applied n k (bare_variable w d N) M' N').wires) [
      | true ↦ (λ t. applied_kept (d + f) n k (bare_variable w d N) M' N' (name_has_wire w f M d n (k + 1) t))
      | false ↦ (λ t. let other : has_name f N ≡ true = rw t at h in
          applied_more (d + f) n k (bare_variable w d N) M' N' (bare_part w N d (n + 1) k')
          (name_has_wire w f N d (n + 1) k' other))
    ] refl

-- ---- the whole term

-- how often a port is joined to the wires of the names
uses_name_links : (p : Port) (wires : List (ℕ × Port)) → uses p (name_links wires) ≡ free_ends p wires + held p wires
uses_name_links p [] = omega arith
uses_name_links p (w ∷ wires) = omega (arith, uses_name_links p wires)

-- each slot_port stands in one link, and so do the free ports of the root and of the wires
pub whole_balance : (w : Translation) (p : Port) (t : Tree) →
    uses p (links_of w t) ≡ slots p 0 (nodes_of w t) + hit p (Free 0) + free_ends p (subnet_of w t 0 0 0).wires
whole_balance w p t =
    let P = subnet_of w t 0 0 0 in
    let part = part_balance w p t 0 0 0 in
    omega (
      arith,
      part,
      uses-append p (subnet_of w t 0 0 0).links
          ((Free 0, (subnet_of w t 0 0 0).root) ∷ name_links (subnet_of w t 0 0 0).wires),
      uses_name_links p (subnet_of w t 0 0 0).wires,
    )
