-- The nodes and links of a part's parts, and which wires it has.
use Rattle.std.proofs.Common.{◌≡◌, ℕ, suc, ◌≤◌, ◌<◌, ◌+◌, List, [], ◌∷◌, ◌++◌, length, true, false, Bool, nat_eq}
use Rattle.std.proofs.Common.{Option, None, Some, refl, sym, ap, ◌∙◌, arith, subst, length-append, ◌||◌, if◌then◌else◌}
use Rattle.std.proofs.lemmas.Bool.Decides.{nat_tests}
use Rattle.std.proofs.lemmas.Bool.{and_parts}
use Rattle.ol_term.specs.declared.translations.Translation.{Translation}
use Rattle.ol_term.specs.Trees.{Tree, var, free, lam, app, is_below}
use Rattle.ol_net.specs.declared.parts.Kind.{Kind}
use Rattle.ol_net.specs.declared.parts.Kind.TheVariants as kind
use Rattle.ol_net.specs.declared.parts.Port.{Port}
use Rattle.ol_translate.specs.Translation.{Subnet, subnet_of, abstraction, application, application_to, applied}
use Rattle.ol_translate.specs.Translation.{bare_variable, erasers, bound_port, bracket_nodes, bracket_links}
use Rattle.ol_translate.specs.Translation.{past_brackets, fans, wire_of, slot_port}
use Rattle.ol_translate.proofs.Counts.{times}
use Rattle.ol_translate.proofs.Joints.{HasOnly, bare_part, few_wires, times-bracketed}
use Rattle.ol_translate.proofs.Walks.{length-bracket_nodes}
use Rattle.ol_law_meaning.specs.Spots.{Wire, bound, name, under, occurs}
use Rattle.ol_law_meaning.proofs.Fans.{Holds, Links, holds_append, links_append, Merges, fans_merge}
use Rattle.ol_law_meaning.proofs.Fans.{Brackets, brackets_wire, outside_wire}

-- a part's nodes, from number k on, and its links
pub record Has (H : ℕ → Kind → ℕ → Type 0) (L : Port → Port → Type 0) (k : ℕ) (P : Subnet) : Type 0 where
  pub nodes : Holds H k P.nodes
  pub links : Links L P.links

-- the part of an application's argument
abbrev pub argument : Translation → Tree → Tree → (d n k : ℕ) → Subnet
argument τ M N d n k = subnet_of τ N d (n + 1) (k + 1 + length (subnet_of τ M d n (k + 1)).nodes)

one_time : (v x : ℕ) (p : Port) → times v ((x, p) ∷ []) ≤ 1
one_time v x p = elim (nat_eq x v) as (λ b. (if b then 1 else 0) + 0 ≤ 1) [ true ↦ omega arith | false ↦ omega arith ]

module _ (H : ℕ → Kind → ℕ → Type 0) (L : Port → Port → Type 0) where
  pub record HasLam (n k : ℕ) (M : Subnet) : Type 0 where
    pub node : H k kind.Lam n
    pub part : Has H L (k + 1) M
    pub link : L (slot_port k 1) M.root
    pub var_link : L (slot_port k 2) (bound_port (wire_of 0 M.wires) (k + 1 + length M.nodes))
    pub eraser : Holds H (k + 1 + length M.nodes) (erasers (wire_of 0 M.wires))

  pub has_lam : (n k : ℕ) (M : Subnet) → Has H L k (abstraction n k M) → HasLam n k M
  has_lam n k M h =
      let nodes = holds_append H k (k + 1 + length M.nodes) ((kind.Lam, n) ∷ M.nodes)
      (erasers (wire_of 0 M.wires)) (omega arith) h.nodes in
      let links = links_append L M.links ((slot_port k 1, M.root) ∷
      (slot_port k 2, bound_port (wire_of 0 M.wires) (k + 1 + length M.nodes)) ∷ []) h.links in
      record {
        node = nodes.0.0;
        part = record { nodes = nodes.0.1; links = links.0 };
        link = links.1.0;
        var_link = links.1.1.0;
        eraser = nodes.1;
      }

  -- a wire of an application, by those of its parts
  abbrev pub Wires : ℕ → Option Port → Option Port → Option Port → Type 0
  Wires n None None r = r ≡ None
  Wires n None (Some q) r = (x : ℕ) × (r ≡ Some (slot_port x 0)) × H x kind.Bracket n × L (slot_port x 1) q
  Wires n (Some p) None r = r ≡ Some p
  Wires n (Some p) (Some q) r = (x y : ℕ) × (r ≡ Some (slot_port y 0)) × H x kind.Bracket n
      × L (slot_port x 1) q × H y kind.Fan n × L (slot_port y 1) p × L (slot_port y 2) (slot_port x 0)

  pub record HasApp (n k : ℕ) (M N : Subnet) : Type 0 where
    pub node : H k kind.App n
    pub function : Has H L (k + 1) M
    pub argument : Has H L (k + 1 + length M.nodes) N
    pub link : L (slot_port k 0) M.root
    pub arg_link : L (slot_port k 2) N.root
    pub wires : (v : ℕ) → times v N.wires ≤ 1 →
        Wires n (wire_of v M.wires) (wire_of v N.wires) (wire_of v (application n k M N).wires)

  -- of an application to a variable
  pub record HasAppTo (n k x : ℕ) (M : Subnet) : Type 0 where
    pub node : H k kind.App n
    pub function : Has H L (k + 1) M
    pub link : L (slot_port k 0) M.root
    pub wires : (v : ℕ) → Merges H L n (wire_of v M.wires) (wire_of v ((x, slot_port k 2) ∷ []))
        (wire_of v (application_to n k x M).wires)

  pub has_app_to : (n k x : ℕ) (M : Subnet) → Has H L k (application_to n k x M) → HasAppTo n k x M
  has_app_to n k x M h =
      let F = fans n (k + 1 + length M.nodes) M.wires ((x, slot_port k 2) ∷ []) in
      let nodes = holds_append H k (k + 1 + length M.nodes) ((kind.App, n) ∷ M.nodes) F.nodes (omega arith) h.nodes in
      let links = links_append L M.links ((slot_port k 0, M.root) ∷ F.links) h.links in
      record {
        node = nodes.0.0;
        function = record { nodes = nodes.0.1; links = links.0 };
        link = links.1.0;
        wires = λ v. fans_merge H L v n (k + 1 + length M.nodes) M.wires ((x, slot_port k 2) ∷ [])
            (one_time v x (slot_port k 2)) nodes.1 links.1.1;
      }

  both_wires : (n : ℕ) (p q m r : Option Port) → Brackets H L n q m → Merges H L n p m r → Wires n p q r
  both_wires n p None m r b h = no_bracket p (subst (λ m. Merges H L n p m r) b h)
    where
      no_bracket : (p : Option Port) → Merges H L n p None r → Wires n p None r
      no_bracket None h = h
      no_bracket (Some p) h = h
  both_wires n p (Some q) m r b h = bracket p (subst (λ m. Merges H L n p m r) b.1 h)
    where
      bracket : (p : Option Port) → Merges H L n p (Some (slot_port b.0 0)) r → Wires n p (Some q) r
      bracket None h = (b.0, h, b.2, b.3)
      bracket (Some p) h = (b.0, h.0, h.1, b.2, b.3, h.2, h.3, h.4)

  pub has_app : (n k : ℕ) (M N : Subnet) → Has H L k (application n k M N) → HasApp n k M N
  has_app n k M N h =
      let b : ℕ = k + 1 + length M.nodes + length N.nodes in
      let F = fans n (k + 1 + length M.nodes + length N.nodes + length N.wires) M.wires
      (past_brackets (k + 1 + length M.nodes + length N.nodes) N.wires) in
      let nodes1 = holds_append H k (k + 1 + length M.nodes + length N.nodes)
      (((kind.App, n) ∷ M.nodes) ++ N.nodes) (bracket_nodes n N.wires ++ F.nodes)
      (omega (arith, length-append M.nodes N.nodes)) h.nodes in
      let nodes2 = holds_append H k (k + 1 + length M.nodes) ((kind.App, n) ∷ M.nodes) N.nodes (omega arith) nodes1.0 in
      let nodes3 = holds_append H (k + 1 + length M.nodes + length N.nodes)
      (k + 1 + length M.nodes + length N.nodes + length N.wires)
      (bracket_nodes n N.wires) F.nodes (omega (arith, length-bracket_nodes n N.wires)) nodes1.1 in
      let links1 = links_append L (M.links ++ N.links)
      (((slot_port k 0, M.root) ∷ (slot_port k 2, N.root) ∷ []) ++
      (bracket_links (k + 1 + length M.nodes + length N.nodes) N.wires ++ F.links)) h.links in
      let links2 = links_append L M.links N.links links1.0 in
      let links3 = links_append L (bracket_links
      (k + 1 + length M.nodes + length N.nodes) N.wires) F.links links1.1.1.1 in
      record {
        node = nodes2.0.0;
        function = record { nodes = nodes2.0.1; links = links2.0 };
        argument = record { nodes = nodes2.1; links = links2.1 };
        link = links1.1.0;
        arg_link = links1.1.1.0;
        wires = λ v few. both_wires n (wire_of v M.wires) (wire_of v N.wires)
            (wire_of v (past_brackets (k + 1 + length M.nodes + length N.nodes) N.wires)) (wire_of v F.wires)
            (brackets_wire H L v n (k + 1 + length M.nodes + length N.nodes) N.wires nodes3.0 links3.0)
            (fans_merge H L v n (k + 1 + length M.nodes + length N.nodes + length N.wires) M.wires
            (past_brackets (k + 1 + length M.nodes + length N.nodes) N.wires)
            (rw (times-bracketed v (k + 1 + length M.nodes + length N.nodes) N.wires) few) nodes3.1 links3.1);
      }

  -- of both
  pub record HasHead (n k : ℕ) (M : Subnet) : Type 0 where
    pub node : H k kind.App n
    pub function : Has H L (k + 1) M
    pub link : L (slot_port k 0) M.root

  pub has_head : (n k : ℕ) (o : Option ℕ) (M N : Subnet) → Has H L k (applied n k o M N) → HasHead n k M
  has_head n k None M N h = let A = has_app n k M N h in record { node = A.node; function = A.function; link = A.link }
  has_head n k (Some x) M N h = let A = has_app_to n k x M h in
      record { node = A.node; function = A.function; link = A.link }

pub applied_root : (n k : ℕ) (o : Option ℕ) (M N : Subnet) → (applied n k o M N).root ≡ slot_port k 1
applied_root n k None M N = refl
applied_root n k (Some x) M N = refl

-- ---- which wires a part has

-- the variable of a wire, under d abstractions
abbrev pub key : ℕ → Wire → ℕ
key d (bound y) = y
key d (name f) = d + f

abbrev pub IsInside : ℕ → Wire → Type 0
IsInside d (bound y) = y < d
IsInside d (name f) = Unit {0}

abbrev pub some : Option Port → Bool
some None = false
some (Some p) = true

pub key_under : (d : ℕ) (y : Wire) → key (d + 1) (under y) ≡ suc (key d y)
key_under d (bound y) = refl
key_under d (name f) = omega arith

pub inside_under : (d : ℕ) (y : Wire) → IsInside d y → IsInside (d + 1) (under y)
inside_under d (bound y) h = omega arith
inside_under d (name f) h = tt

abbrev Any : ℕ → Kind → ℕ → Type 0
Any x K i = Unit {0}

abbrev AnyLink : Port → Port → Type 0
AnyLink p q = Unit {0}

any_nodes : (k : ℕ) (nodes : List (Kind × ℕ)) → Holds Any k nodes
any_nodes k [] = tt
any_nodes k (x ∷ nodes) = (tt, any_nodes (k + 1) nodes)

any_links : (links : List (Port × Port)) → Links AnyLink links
any_links [] = tt
any_links (l ∷ links) = (tt, any_links links)

some_wires : (n : ℕ) (p q r : Option Port) → Wires Any AnyLink n p q r → some r ≡ some p || some q
some_wires n None None r h = ap some h
some_wires n None (Some q) r h = ap some h.1
some_wires n (Some p) None r h = ap some h
some_wires n (Some p) (Some q) r h = ap some h.2

pub occurs_lam : (y : Wire) (t : Tree) → occurs y (lam t) ≡ occurs (under y) t
occurs_lam (bound y) t = refl
occurs_lam (name f) t = refl

pub occurs_app : (y : Wire) (t u : Tree) → occurs y (app t u) ≡ occurs y t || occurs y u
occurs_app (bound y) t u = refl
occurs_app (name f) t u = refl

one_wire : (v u : ℕ) (p : Port) → some (wire_of v ((u, p) ∷ [])) ≡ nat_eq u v
one_wire v u p = elim (nat_eq u v) as
    (λ b. nat_eq u v ≡ b → some (wire_of v ((u, p) ∷ [])) ≡ b) [
      | true ↦ (λ t. rw t refl)
      | false ↦
          (λ t. rw t refl)
    ] refl

some_merges : (n : ℕ) (p q r : Option Port) → Merges Any AnyLink n p q r → some r ≡ some p || some q
some_merges n None None r h = ap some h
some_merges n None (Some q) r h = ap some h
some_merges n (Some p) None r h = ap some h
some_merges n (Some p) (Some q) r h = ap some h.1

-- an application has the wires of the function and of the argument
wires_of_both : (v n k : ℕ) (o : Option ℕ) (P Q : Subnet) → HasOnly o Q.wires →
    times v Q.wires ≤ 1 → some (wire_of v (applied n k o P Q).wires) ≡ some
    (wire_of v P.wires) || some (wire_of v Q.wires)
wires_of_both v n k None P Q only few =
    let A = has_app Any AnyLink n k P Q (record {
      nodes = any_nodes k (application n k P Q).nodes;
      links = any_links (application n k P Q).links;
    }) in
    some_wires n (wire_of v P.wires) (wire_of v Q.wires) (wire_of v (application n k P Q).wires) (A.wires v few)
wires_of_both v n k (Some x) P Q (q, only) few =
    let A = has_app_to Any AnyLink n k x P
    (record {
      nodes = any_nodes k (application_to n k x P).nodes;
      links = any_links (application_to n k x P).links;
    }) in
    some_merges n (wire_of v P.wires) (wire_of v ((x, slot_port k 2) ∷ []))
    (wire_of v (application_to n k x P).wires) (A.wires v)
    ∙ ap (λ b. some (wire_of v P.wires) || b)
    (one_wire v x (slot_port k 2) ∙ sym (one_wire v x q) ∙ ap (λ wires. some (wire_of v wires)) (sym only))

pub has_wire : (τ : Translation) (t : Tree) (y : Wire) (d n k : ℕ) → is_below d t ≡ true →
    IsInside d y → some (wire_of (key d y) (subnet_of τ t d n k).wires) ≡ occurs y t
has_wire τ (var v) (bound y) d n k h i = one_wire y v (slot_port k 0)
has_wire τ (var v) (name f) d n k h i = let off : nat_eq v (d + f) ≡ false = grind
    (arith, nat_tests, h) in one_wire (d + f) v (slot_port k 0) ∙ off
has_wire τ (free g) (bound y) d n k h i = let off : nat_eq (d + g) y ≡ false = grind
    (arith, nat_tests, i) in one_wire y (d + g) (slot_port k 0) ∙ off
has_wire τ (free g) (name f) d n k h i = let same : nat_eq (d + g) (d + f) ≡ nat_eq g f = grind
    (arith, nat_tests) in one_wire (d + f) (d + g) (slot_port k 0) ∙ same
has_wire τ (lam M) y d n k h i =
    ap some (outside_wire (key d y) (subnet_of τ M (d + 1) n (k + 1)).wires)
    ∙ subst (λ v. some (wire_of v (subnet_of τ M (d + 1) n (k + 1)).wires) ≡ occurs (under y) M)
    (key_under d y) (has_wire τ M (under y) (d + 1) n (k + 1) h (inside_under d y i))
    ∙ sym (occurs_lam y M)
has_wire τ (app M N) y d n k h i =
    let b = and_parts (is_below d M) (is_below d N) h in
    let P = subnet_of τ M d n (k + 1) in
    let Q = argument τ M N d n k in
    wires_of_both (key d y) n k (bare_variable τ d N) P Q
    (bare_part τ N d (n + 1) (k + 1 + length P.nodes)) (few_wires τ (key d y) N d (n + 1) (k + 1 + length P.nodes))
    ∙ ap (λ b. b || some (wire_of (key d y) Q.wires)) (has_wire τ M y d n (k + 1) b.0 i)
    ∙ ap (λ b. occurs y M || b) (has_wire τ N y d (n + 1) (k + 1 + length P.nodes) b.1 i)
    ∙ sym (occurs_app y M N)

pub or_parts : (a b : Bool) → a || b ≡ true → (P : Type 0) → (a ≡ true → P) → (b ≡ true → P) → P
or_parts true b h P f g = f refl
or_parts false b h P f g = g h

-- a wire that occurs is inside
pub occurs_inside : (t : Tree) (y : Wire) (d : ℕ) → is_below d t ≡ true → occurs y t ≡ true → IsInside d y
occurs_inside t (name f) d h o = tt
occurs_inside (var v) (bound y) d h o = grind (arith, nat_tests, h, o)
occurs_inside (free g) (bound y) d h o = absurd (cc)
occurs_inside (lam M) (bound y) d h o = let r : suc y < d + 1 = occurs_inside M (bound (suc y))
    (d + 1) h o in omega arith
occurs_inside (app M N) (bound y) d h o =
    let b = and_parts (is_below d M) (is_below d N) h in
    or_parts (occurs (bound y) M) (occurs (bound y) N) o (y < d) (occurs_inside M (bound y) d b.0)
    (occurs_inside N (bound y) d b.1)

some_is : (x : Option Port) → some x ≡ true → (p : Port) × (x ≡ Some p)
some_is None e = absurd (cc)
some_is (Some p) e = (p, refl)

none_is : (x : Option Port) → some x ≡ false → x ≡ None
none_is None e = refl
none_is (Some p) e = absurd (cc)

pub wire_there : (τ : Translation) (t : Tree) (y : Wire) (d n k : ℕ) → is_below d t ≡ true →
    occurs y t ≡ true → (p : Port) × (wire_of (key d y) (subnet_of τ t d n k).wires ≡ Some p)
wire_there τ t y d n k h o = some_is (wire_of (key d y) (subnet_of τ t d n k).wires)
    (has_wire τ t y d n k h (occurs_inside t y d h o) ∙ o)

pub wire_not : (τ : Translation) (t : Tree) (y : Wire) (d n k : ℕ) → is_below d t ≡ true →
    IsInside d y → occurs y t ≡ false → wire_of (key d y) (subnet_of τ t d n k).wires ≡ None
wire_not τ t y d n k h i o = none_is (wire_of (key d y) (subnet_of τ t d n k).wires) (has_wire τ t y d n k h i ∙ o)

-- ---- the wire of an argument that is one

same_key : (τ : Translation) (d x : ℕ) (Q : Tree) (y : Wire) → bare_variable τ d Q ≡ Some x →
    is_below d Q ≡ true → IsInside d y → nat_eq x (key d y) ≡ occurs y Q
same_key τ d x Q y e h i =
    let w : HasOnly (Some x) (subnet_of τ Q d 0 0).wires = subst
    (λ o. HasOnly o (subnet_of τ Q d 0 0).wires) e (bare_part τ Q d 0 0) in
    sym (one_wire (key d y) x w.0) ∙ ap (λ wires. some (wire_of (key d y) wires)) (sym w.1) ∙ has_wire τ Q y d 0 0 h i

pub bare_there : (τ : Translation) (d x : ℕ) (Q : Tree) (y : Wire) (p : Port) →
    bare_variable τ d Q ≡ Some x → is_below d Q ≡ true → IsInside d y → occurs y Q ≡ true →
    wire_of (key d y) ((x, p) ∷ []) ≡ Some p
bare_there τ d x Q y p e h i o = let t : nat_eq x (key d y) ≡ true = same_key τ d x Q y e h i ∙ o in rw t refl

-- which of both it is
pub bare_occurs : (τ : Translation) (d x : ℕ) (Q : Tree) (y : Wire) (p q : Port) →
    bare_variable τ d Q ≡ Some x → is_below d Q ≡ true → IsInside d y →
    wire_of (key d y) ((x, p) ∷ []) ≡ Some q → (occurs y Q ≡ true) × (q ≡ p)
bare_occurs τ d x Q y p q e h i f =
    let t : nat_eq x (key d y) ≡ true = sym (one_wire (key d y) x p) ∙ ap some f in
    let g : ◌≡◌ {A = Option Port} (Some p) (Some q) = rw t at f in
    (sym (same_key τ d x Q y e h i) ∙ t, let same : p ≡ q = cc in sym same)

pub bare_lacks : (τ : Translation) (d x : ℕ) (Q : Tree) (y : Wire) (p : Port) →
    bare_variable τ d Q ≡ Some x → is_below d Q ≡ true → IsInside d y →
    wire_of (key d y) ((x, p) ∷ []) ≡ None → occurs y Q ≡ false
bare_lacks τ d x Q y p e h i f = sym (same_key τ d x Q y e h i) ∙ sym (one_wire (key d y) x p) ∙ ap some f
