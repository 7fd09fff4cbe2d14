-- How many wires, links and names a term's net has.
use Rattle.std.proofs.Common.{zero-add, subst, get_or, All, ◌^◌, ◌≡◌, ℕ, zero, suc, ◌<◌, ◌≤◌, ◌+◌}
use Rattle.std.proofs.Common.{◌*◌, List, [], ◌∷◌, ◌++◌, length, true, false, nat_eq, nat_lt, Option}
use Rattle.std.proofs.Common.{None, Some, refl, ap, sym, arith, length-append, eq-eqb, ne_eqb}
use Rattle.std.proofs.lemmas.Bool.Decides.{nat_tests}
use Rattle.ol_term.specs.declared.translations.Translation.{Translation}
use Rattle.ol_term.specs.Trees.{Tree, var, free, lam, app}
use Rattle.ol_net.specs.declared.parts.Port.{Port}
use Rattle.ol_net.specs.declared.parts.Port.TheVariants.{Free}
use Rattle.ol_net.specs.declared.parts.Kind.{Kind}
use Rattle.ol_net.specs.declared.parts.Kind.TheVariants as kind
use Rattle.ol_translate.specs.Translation.{Subnet, subnet_of, abstraction, application, application_to, applied}
use Rattle.ol_translate.specs.Translation.{bare_variable, outside, erasers, bound_port, bracket_nodes, bracket_links}
use Rattle.ol_translate.specs.Translation.{past_brackets, fans, fan_nodes, fan_links, merged, wire_of, reconnected}
use Rattle.ol_translate.specs.Translation.{slot_port, name_links, nodes_of, links_of}
use Rattle.ol_translate.proofs.Counts.{times}
use Rattle.ol_translate.specs.Names.{HasNames}
use Rattle.ol_translate.proofs.Joints.{none_past, name_has_wire}
use Rattle.ol_translate.proofs.Walks.{length-bracket_nodes}

-- the wires of the variables below d
total : ℕ → List (ℕ × Port) → ℕ
total zero wires = 0
total (suc d) wires = times d wires + total d wires

total-past : (d : ℕ) (w : ℕ × Port) (wires : List (ℕ × Port)) → d ≤ w.0 → total d (w ∷ wires) ≡ total d wires
unfolding total
total-past zero w wires h = refl
total-past (suc d) w wires h =
    let other : nat_eq w.0 d ≡ false = ne_eqb w.0 d (λ e. omega arith) in
    let rest = total-past d w wires (omega arith) in
    rw other (omega arith)

total-cons : (d : ℕ) (w : ℕ × Port) (wires : List (ℕ × Port)) → w.0 < d → total d (w ∷ wires) ≡ 1 + total d wires
unfolding total
total-cons zero w wires h = absurd (omega arith)
total-cons (suc d) w wires h =
    elim (nat_eq w.0 d) as (λ b. nat_eq w.0 d ≡ b → total (suc d) (w ∷ wires) ≡ 1 + total (suc d) wires) [
      | true ↦ (λ t. let same : w.0 ≡ d = grind (arith, nat_tests, t) in
          let rest = total-past d w wires (omega arith) in rw t (omega arith))
      | false ↦ (λ t. let less : w.0 < d = grind (arith, nat_tests, t) in
          let rest = total-cons d w wires less in rw t (omega arith))
    ] refl

low_key : (d : ℕ) (w : ℕ × Port) (wires : List (ℕ × Port)) → ((v : ℕ) → d ≤ v → times v (w ∷ wires) ≡ 0) → w.0 < d
low_key d w wires none =
    elim (nat_lt w.0 d) as (λ b. nat_lt w.0 d ≡ b → w.0 < d) [
      | true ↦ (λ t. grind (arith, nat_tests, t))
      | false ↦ (λ t. let past : d ≤ w.0 = grind (arith, nat_tests, t) in
          let none = rw (eq-eqb w.0 w.0 refl) at (none w.0 past) in absurd (omega arith))
    ] refl

length-bracketed : (b : ℕ) (wires : List (ℕ × Port)) → length (past_brackets b wires) ≡ length wires
length-bracketed b [] = refl
length-bracketed b (w ∷ wires) = ap suc (length-bracketed (b + 1) wires)

-- ---- wires, links and names are few beside the nodes

length-rewired : (v : ℕ) (p : Port) (wires : List (ℕ × Port)) → length (reconnected v p wires) ≡ length wires
length-rewired v p [] = refl
length-rewired v p (w ∷ wires) =
    elim (nat_eq w.0 v) as (λ b. nat_eq w.0 v ≡ b → length (reconnected v p (w ∷ wires)) ≡ length (w ∷ wires)) [
      | true ↦ (λ t. rw t refl)
      | false ↦ (λ t. rw t (ap suc (length-rewired v p wires)))
    ] refl

fans_wires : (n f : ℕ) (wires more : List (ℕ × Port)) → length (fans n f wires more).wires ≤ length wires + length more
fans_wires n f wires [] = omega arith
fans_wires n f wires (w ∷ more) =
    omega (
      arith,
      one w f wires (wire_of w.0 wires),
      fans_wires n (f + length (fan_nodes n (wire_of w.0 wires))) (merged f (wire_of w.0 wires) w wires) more,
    )
  where
    one : (w : ℕ × Port) (f : ℕ) (wires : List (ℕ × Port)) (x : Option Port) →
        length (merged f x w wires) ≤ 1 + length wires
    one w f wires None = omega (arith, length-append wires (w ∷ []))
    one w f wires (Some q) = omega (arith, length-rewired w.0 (slot_port f 0) wires)

fans_links : (n f : ℕ) (wires more : List (ℕ × Port)) →
    length (fans n f wires more).links ≤ 2 * length (fans n f wires more).nodes
fans_links n f wires [] = omega arith
fans_links n f wires (w ∷ more) =
    let rest = fans n (f + length (fan_nodes n (wire_of w.0 wires))) (merged f (wire_of w.0 wires) w wires) more in
    omega (
      arith,
      one n f w.1 (wire_of w.0 wires),
      length-append (fan_nodes n (wire_of w.0 wires))
          (fans n (f + length (fan_nodes n (wire_of w.0 wires))) (merged f (wire_of w.0 wires) w wires) more).nodes,
      length-append (fan_links f (wire_of w.0 wires) w.1)
          (fans n (f + length (fan_nodes n (wire_of w.0 wires))) (merged f (wire_of w.0 wires) w wires) more).links,
      fans_links n (f + length (fan_nodes n (wire_of w.0 wires))) (merged f (wire_of w.0 wires) w wires) more,
    )
  where
    one : (n f : ℕ) (q : Port) (x : Option Port) → length (fan_links f x q) ≤ 2 * length (fan_nodes n x)
    one n f q None = omega arith
    one n f q (Some p) = omega arith

length-bracket_links : (b : ℕ) (wires : List (ℕ × Port)) → length (bracket_links b wires) ≡ length wires
length-bracket_links b [] = refl
length-bracket_links b (w ∷ wires) = ap suc (length-bracket_links (b + 1) wires)

length-outside-le : (wires : List (ℕ × Port)) → length (outside wires) ≤ length wires
length-outside-le [] = omega arith
length-outside-le (w ∷ wires) =
    let rest = length-outside-le wires in
    elim (nat_lt 0 w.0) as (λ b. nat_lt 0 w.0 ≡ b → length (outside (w ∷ wires)) ≤ length (w ∷ wires)) [
      | true ↦ (λ t. rw t (omega arith))
      | false ↦ (λ t. rw t (omega arith))
    ] refl

-- at most as many wires as nodes, and twice as many links
pub record IsSmall (P : Subnet) : Type 0 where
  pub wires : length P.wires ≤ length P.nodes
  pub links : length P.links ≤ 2 * length P.nodes

abstraction_small : (n k : ℕ) (M : Subnet) → IsSmall M → IsSmall (abstraction n k M)
abstraction_small n k M h = record {
  wires = omega (arith, h.wires, length-outside-le M.wires, length-append M.nodes (erasers (wire_of 0 M.wires)));
  links = omega (
    arith,
    h.links,
    length-append M.nodes (erasers (wire_of 0 M.wires)),
    length-append M.links ((slot_port k 1, M.root) ∷
        (slot_port k 2, bound_port (wire_of 0 M.wires) (k + 1 + length M.nodes)) ∷ []),
  );
}

application_small : (n k : ℕ) (M N : Subnet) → IsSmall M → IsSmall N → IsSmall (application n k M N)
application_small n k M N hm hn =
    let b : ℕ = k + 1 + length M.nodes + length N.nodes in
    let F = fans n (k + 1 + length M.nodes + length N.nodes + length N.wires) M.wires
    (past_brackets (k + 1 + length M.nodes + length N.nodes) N.wires) in
    let two : List (Port × Port) = (slot_port k 0, M.root) ∷ (slot_port k 2, N.root) ∷ [] in
    let bl = bracket_links (k + 1 + length M.nodes + length N.nodes) N.wires in
    let nodes1 = length-append (((kind.App, n) ∷ M.nodes) ++ N.nodes) (bracket_nodes n N.wires ++ F.nodes) in
    let nodes2 = length-append M.nodes N.nodes in
    let nodes3 = length-append (bracket_nodes n N.wires) F.nodes in
    let nodes4 = length-bracket_nodes n N.wires in
    let links1 = length-append (M.links ++ N.links) (two ++ (bl ++ F.links)) in
    let links2 = length-append M.links N.links in
    let links3 = length-append bl F.links in
    let links4 = length-bracket_links (k + 1 + length M.nodes + length N.nodes) N.wires in
    let links5 = fans_links n (k + 1 + length M.nodes + length N.nodes + length N.wires) M.wires
    (past_brackets (k + 1 + length M.nodes + length N.nodes) N.wires) in
    let wires1 = fans_wires n (k + 1 + length M.nodes + length N.nodes + length N.wires) M.wires
    (past_brackets (k + 1 + length M.nodes + length N.nodes) N.wires) in
    let wires2 = length-bracketed (k + 1 + length M.nodes + length N.nodes) N.wires in
    record {
      wires = omega (arith, nodes1, nodes2, nodes3, nodes4, wires1, wires2, hm.wires, hn.wires);
      links = omega (arith, nodes1, nodes2, nodes3, nodes4, links1, links2, links3, links4, links5, hm.links, hn.links);
    }

application_to_small : (n k y : ℕ) (M : Subnet) → IsSmall M → IsSmall (application_to n k y M)
application_to_small n k y M h =
    let F = fans n (k + 1 + length M.nodes) M.wires ((y, slot_port k 2) ∷ []) in
    let nodes = length-append M.nodes F.nodes in
    let links = length-append M.links ((slot_port k 0, M.root) ∷ F.links) in
    let wires = fans_wires n (k + 1 + length M.nodes) M.wires ((y, slot_port k 2) ∷ []) in
    let fan_links = fans_links n (k + 1 + length M.nodes) M.wires ((y, slot_port k 2) ∷ []) in
    record { wires = omega (arith, nodes, wires, h.wires); links = omega (arith, nodes, links, fan_links, h.links) }

applied_small : (n k : ℕ) (o : Option ℕ) (M N : Subnet) → IsSmall M → IsSmall N → IsSmall (applied n k o M N)
applied_small n k None M N hm hn = application_small n k M N hm hn
applied_small n k (Some y) M N hm hn = application_to_small n k y M hm

pub part_small : (w : Translation) (t : Tree) (d n k : ℕ) → IsSmall (subnet_of w t d n k)
part_small w (var v) d n k = record { wires = omega arith; links = omega arith }
part_small w (free f) d n k = record { wires = omega arith; links = omega arith }
part_small w (lam M) d n k = abstraction_small n k (subnet_of w M (d + 1) n (k + 1)) (part_small w M (d + 1) n (k + 1))
part_small w (app M N) d n k =
    applied_small n k (bare_variable w d N) (subnet_of w M d n (k + 1))
    (subnet_of w N d (n + 1) (k + 1 + length (subnet_of w M d n (k + 1)).nodes))
    (part_small w M d n (k + 1)) (part_small w N d (n + 1) (k + 1 + length (subnet_of w M d n (k + 1)).nodes))

length-name_links : (wires : List (ℕ × Port)) → length (name_links wires) ≡ length wires
length-name_links [] = refl
length-name_links (w ∷ wires) = ap suc (length-name_links wires)

pub few_links : (w : Translation) (t : Tree) → length (links_of w t) ≤ 1 + 3 * length (nodes_of w t)
few_links w t =
    let P = subnet_of w t 0 0 0 in
    omega (
      arith,
      (part_small w t 0 0 0).wires,
      (part_small w t 0 0 0).links,
      length-name_links (subnet_of w t 0 0 0).wires,
      length-append (subnet_of w t 0 0 0).links
          ((Free 0, (subnet_of w t 0 0 0).root) ∷ name_links (subnet_of w t 0 0 0).wires),
    )

total-ge : (d : ℕ) (wires : List (ℕ × Port)) → ((v : ℕ) → v < d → 1 ≤ times v wires) → d ≤ total d wires
unfolding total
total-ge zero wires some = omega arith
total-ge (suc d) wires some = omega (arith, some d (omega arith), total-ge d wires (λ v h. some v (omega arith)))

total-nil : (d : ℕ) → total d [] ≡ 0
unfolding total
total-nil zero = refl
total-nil (suc d) = rw zero-add (total-nil d)

total-le-length : (d : ℕ) (wires : List (ℕ × Port)) → total d wires ≤ length wires
total-le-length d [] = omega (arith, total-nil d)
total-le-length d (w ∷ wires) =
    let rest = total-le-length d wires in
    elim (nat_lt w.0 d) as (λ b. nat_lt w.0 d ≡ b → total d (w ∷ wires) ≤ length (w ∷ wires)) [
      | true ↦ (λ t. let low : w.0 < d = grind (arith, nat_tests, t) in omega (arith, total-cons d w wires low))
      | false ↦ (λ t. let past : d ≤ w.0 = grind (arith, nat_tests, t) in omega (arith, total-past d w wires past))
    ] refl

pub few_names : (w : Translation) (t : Tree) (names : ℕ) → HasNames t names → names ≤ length (nodes_of w t)
few_names w t names h =
    omega (
      arith,
      total-ge names (subnet_of w t 0 0 0).wires (λ v low. rw zero-add at (name_has_wire w v t 0 0 0 (h.each v low))),
      total-le-length names (subnet_of w t 0 0 0).wires,
      (part_small w t 0 0 0).wires,
    )

-- ---- the wires of a whole term are those of its names

low_keys : (d : ℕ) (wires : List (ℕ × Port)) → ((v : ℕ) → d ≤ v → times v wires ≡ 0) →
    (k : ℕ) (e : ℕ × Port) → k < length wires → (get_or wires k e).0 < d
low_keys d [] none k e h = absurd (omega arith)
low_keys d (w ∷ wires) none zero e h = low_key d w wires none
low_keys d (w ∷ wires) none (suc k) e h = low_keys d wires
    (λ v past. let here = none v past in omega arith) k e (omega arith)

pub names_fit : (w : Translation) (t : Tree) (names : ℕ) → HasNames t names →
    length (nodes_of w t) ≤ 200000 → All (λ (w : ℕ × Port). w.0 < 2 ^ 31) (subnet_of w t 0 0 0).wires
names_fit w t names h few k e low =
    omega (
      arith,
      few_names w t names h,
      low_keys names (subnet_of w t 0 0 0).wires
          (λ v past. none_past w v names t 0 0 0 h.bound h.named (omega arith)) k e low,
    )

-- the same of wires and nodes that were laid down from nothing
pub laid_names_fit : (w : Translation) (t : Tree) (names : ℕ) (start nodes : List (Kind × ℕ))
    (wires : List (ℕ × Port)) → HasNames t names → start ≡ []
    → wires ≡ (subnet_of w t 0 0 (length start)).wires →
    nodes ≡ start ++ (subnet_of w t 0 0 (length start)).nodes → length nodes ≤ 200000
    → All (λ (w : ℕ × Port). w.0 < 2 ^ 31) wires
laid_names_fit w t names [] nodes wires h none e n few =
    let P : List (ℕ × Port) → Type 0 = λ l. All (λ (w : ℕ × Port). w.0 < 2 ^ 31) l in
    subst P (sym e) (names_fit w t names h (omega (arith, ap length n)))
laid_names_fit w t names (x ∷ xs) nodes wires h none e n few = absurd (cc)
